-- How a list is said in order of ids.
use Rattle.std.proofs.Common.{◌≡◌, ℕ, ◌+◌, ◌<◌, ◌≤◌, List, [], ◌∷◌, ◌++◌, length, Option, Some, None, ap, refl, sym, ◌∙◌, arith, subst, append_assoc, append-nil, length-append}
use Rattle.std.specs.Prelude.{nat_lt, find}
use Rattle.std.specs.List.{flat_map}
use Rattle.std.specs.Option.{option_map}
use Rattle.std.proofs.lemmas.Grind.{flat_map-append}
use Rattle.std.proofs.lemmas.List.Concat.{flat_map-cons}
use Rattle.std.proofs.lemmas.Option.{none-some, same_Some}
use Rattle.nor_core.specs.declared.state.NorState.{Ghosts as NorOf}
use Rattle.image_tool.specs.Texts.{line_if, list_if}
use Rattle.image_tool.specs.Saying.{OnlySays, SaysFront}
use Rattle.table_model.proofs.Ascending.{Ascends, head_found, found_behind}
use Rattle.image_tool.proofs.Speaking.{Ahead, says_more, front_more, says_same}

-- the first of a list whose key is above a number
abbrev pub first_above : {X : Type 0} → (X → ℕ) → ℕ → List X → Option X
first_above {X} key after xs = find (λ (x : X). nat_lt after (key x)) xs

-- The lines of all keys up to a number were said, and these are left.
pub record Place {X : Type 0} (key : X → ℕ) (line : X → List ℕ) (first now : List ℕ) (all : List X) (after : ℕ) : Type 0 where
  pub front : List X
  pub rest : List X
  pub all_is : all ≡ front ++ rest
  pub ascends : Ascends key after rest
  pub same : (id : ℕ) → after ≤ id → first_above key id all ≡ first_above key id rest
  pub said : now ≡ first ++ flat_map line front

module _ {X : Type 0} (key : X → ℕ) (line : X → List ℕ) where
  -- nothing was said
  pub place_first : (said : List ℕ) (all : List X) → Ascends key 0 all → (p : Place key line said said all 0) × (p.front ≡ [])
  place_first said all h = (record { front = []; rest = all; all_is = refl; ascends = h; same = λ id le. refl; said = sym (append-nil said) }, refl)

  rest_ahead : (after : ℕ) (rest : List X) → Ascends key after rest → (tail : List X) × (rest ≡ list_if (first_above key after rest) ++ tail)
  unfolding Ascends
  rest_ahead after [] h = ([], refl)
  rest_ahead after (x ∷ xs) h = (xs, ap (λ (o : Option X). list_if o ++ xs) (sym (head_found key x xs after h.0)))

  -- what comes next
  pub all_ahead : {first now : List ℕ} {all : List X} {after : ℕ} → (p : Place key line first now all after) → (tail : List X) × (all ≡ p.front ++ (list_if (first_above key after all) ++ tail))
  all_ahead {first} {now} {all} {after} p =
      let w = rest_ahead after p.rest p.ascends in
      (w.0, p.all_is ∙ ap (λ (l : List X). p.front ++ l) w.1 ∙ ap (λ (o : Option X). p.front ++ (list_if o ++ w.0)) (sym (p.same after (omega arith))))

  -- a line that there may be
  pub lines_if : (o : Option X) → flat_map line (list_if o) ≡ line_if line o
  lines_if None = refl
  lines_if (Some x) = flat_map-cons line x [] ∙ append-nil (line x)

  -- the line that comes next
  pub place_ahead : {first now : List ℕ} {all : List X} {after : ℕ} → Place key line first now all after → Ahead first now (flat_map line all) (line_if line (first_above key after all))
  place_ahead {first} {now} {all} {after} p =
      let w = all_ahead p in
      let o = first_above key after all in
      record {
        part = flat_map line p.front;
        tail = flat_map line w.0;
        said = p.said;
        text_is = ap (flat_map line) w.1 ∙ flat_map-append line p.front (list_if o ++ w.0) ∙ ap (λ (l : List ℕ). flat_map line p.front ++ l) (flat_map-append line (list_if o) w.0 ∙ ap (λ (l : List ℕ). l ++ flat_map line w.0) (lines_if o));
      }

  some_next : (first now new : List ℕ) (all front rest : List X) (after id : ℕ) → Ascends key after rest →
      ((id : ℕ) → after ≤ id → first_above key id all ≡ first_above key id rest) → all ≡ front ++ rest → now ≡ first ++ flat_map line front →
      option_map key (first_above key after rest) ≡ Some id → new ≡ now ++ line_if line (first_above key after rest) →
      (p : Place key line first new all id) × ((p.front ≡ front ++ list_if (first_above key after rest)) × (length p.front ≡ length front + 1))
  unfolding Ascends
  some_next first now new all front [] after id asc same all_is said is new_is = absurd (none-some id is)
  some_next first now new all front (x ∷ xs) after id asc same all_is said is new_is =
      let here : first_above key after (x ∷ xs) ≡ Some x = head_found key x xs after asc.0 in
      let at : key x ≡ id = same_Some (key x) id (sym (ap (option_map key) here) ∙ is) in
      let above : after < key x = asc.0 in (
        record {
          front = front ++ x ∷ [];
          rest = xs;
          all_is = all_is ∙ sym (append_assoc front (x ∷ []) xs);
          ascends = subst (λ (n : ℕ). Ascends key n xs) at asc.1;
          same = λ other le. same other (omega (arith, at, above, le)) ∙ found_behind key x xs other (omega (arith, at, le));
          said = new_is ∙ ap (λ (o : Option X). now ++ line_if line o) here ∙ ap (λ (l : List ℕ). l ++ line x) said ∙ append_assoc first (flat_map line front) (line x)
              ∙ ap (λ (l : List ℕ). first ++ l) (ap (λ (l : List ℕ). flat_map line front ++ l) (sym (lines_if (Some x))) ∙ sym (flat_map-append line front (x ∷ [])));
        },
        (ap (λ (o : Option X). front ++ list_if o) (sym here), length-append front (x ∷ [])),
      )

  none_next : (after : ℕ) (rest : List X) → Ascends key after rest → option_map key (first_above key after rest) ≡ None → rest ≡ []
  unfolding Ascends
  none_next after [] h e = refl
  none_next after (x ∷ xs) h e = absurd (none-some (key x) (sym e ∙ ap (option_map key) (head_found key x xs after h.0)))

  no_line : (o : Option X) → option_map key o ≡ None → line_if line o ≡ []
  no_line None e = refl
  no_line (Some x) e = absurd (none-some (key x) (sym e))

module _ {D : Type 0} {nor : NorOf D} {X : Type 0} (key : X → ℕ) (line : X → List ℕ) where
  -- a turn at a list by another name, and what it leaves
  pub walk_says : {old mid new : D} (all here : List X) (after : ℕ) → here ≡ all → OnlySays nor old mid (flat_map line all) → (nor.tells old → Place key line (nor.said old) (nor.said mid) all after) →
      OnlySays nor mid new (line_if line (first_above key after here)) → OnlySays nor old new (flat_map line all)
  walk_says all here after e first place second =
      says_more first (says_same _ _ (λ tells. ap (λ (l : List X). line_if line (first_above key after l)) e) second) (λ tells. place_ahead key line (place tells))

  pub walk_front : {old mid new : D} (all here : List X) (after : ℕ) → here ≡ all → Place key line (nor.said old) (nor.said mid) all after →
      SaysFront nor mid new (line_if line (first_above key after here)) → SaysFront nor old new (flat_map line all)
  walk_front {old} {mid} {new} all here after e place front =
      front_more (place_ahead key line place) (subst (λ (l : List X). SaysFront nor mid new (line_if line (first_above key after l))) e front)

module _ {X : Type 0} (key : X → ℕ) (line : X → List ℕ) where
  -- a line more
  pub walk_next : {first now new : List ℕ} (all here : List X) (after id : ℕ) → here ≡ all → (p : Place key line first now all after) →
      Some id ≡ option_map key (first_above key after here) → new ≡ now ++ line_if line (first_above key after here) →
      (q : Place key line first new all id) × ((q.front ≡ p.front ++ list_if (first_above key after all)) × (length q.front ≡ length p.front + 1))
  walk_next {first} {now} {new} all here after id e p is said =
      let there : first_above key after here ≡ first_above key after p.rest = ap (λ (l : List X). first_above key after l) e ∙ p.same after (omega arith) in
      let w = some_next key line first now new all p.front p.rest after id p.ascends p.same p.all_is p.said (sym (is ∙ ap (option_map key) there)) (said ∙ ap (λ (o : Option X). now ++ line_if line o) there) in
      (w.0, (w.1.0 ∙ ap (λ (o : Option X). p.front ++ list_if o) (sym (p.same after (omega arith))), w.1.1))

  -- all lines were said
  pub walk_last : {first now new : List ℕ} (all here : List X) (after : ℕ) → here ≡ all → (p : Place key line first now all after) →
      None ≡ option_map key (first_above key after here) → new ≡ now ++ line_if line (first_above key after here) → (new ≡ first ++ flat_map line all) × (p.front ≡ all)
  walk_last {first} {now} {new} all here after e p is said =
      let there : first_above key after here ≡ first_above key after p.rest = ap (λ (l : List X). first_above key after l) e ∙ p.same after (omega arith) in
      let none : p.rest ≡ [] = none_next key line after p.rest p.ascends (sym (is ∙ ap (option_map key) there)) in
      let whole : all ≡ p.front = p.all_is ∙ ap (λ (l : List X). p.front ++ l) none ∙ append-nil p.front in (
        said ∙ ap (λ (l : List ℕ). now ++ l) (no_line key line (first_above key after here) (sym is)) ∙ append-nil now ∙ p.said ∙ ap (λ (l : List X). first ++ flat_map line l) (sym whole),
        sym whole,
      )
