-- The block that is chosen, among those that are worth cleaning and fit.
use Rattle.std.proofs.Common.{◌≡◌, ℕ, zero, suc, ◌+◌, ◌<◌, ◌≤◌, List, [], ◌∷◌, Bool, true, false, not, cond, nat_lt, ◌&&◌, refl, sym, ◌∙◌, arith, ⊎_elim}
use Rattle.std.specs.Prelude.{Some, None, ℤ, int_le, filter, find}
use Rattle.std.specs.List.{range_with_len, list_any, list_all}
use Rattle.std.proofs.lemmas.Int.{ints}
use Rattle.std.proofs.lemmas.Bool.{cases_Bool, cases_eq, and_parts, and_from, or_left, or_right, lt-ltb}
use Rattle.std.proofs.lemmas.Option.{same_Some}
use Rattle.geometry.specs.declared.geometry.Geometry.{Geometry}
use Rattle.image_model.specs.Tidy.{free_blocks}
use Rattle.image_model.specs.Kinds.{is_data_block}
use Rattle.image_model.specs.Collect.{is_worth, is_fitting, score, candidates, first_candidates, best_of, chosen_block}
use Rattle.image_laws.proofs.Records.{list_any-at}
use Rattle.room_laws.specs.Choosing.{IsCandidate, NoneIsCandidate, ChosenIsCandidate, ChosenIsPlain}
use Rattle.room_laws.proofs.Ranges.{any_counted}

-- ---- facts of each number of a list

abbrev Each : (ℕ → Type 0) → List ℕ → Type 0
Each P [] = Unit {0}
Each P (x ∷ xs) = P x × Each P xs

each_range : (P : ℕ → Type 0) (a n : ℕ) → ((q : ℕ) → a ≤ q → q < a + n → P q) → Each P (range_with_len a n)
each_range P a zero all = tt
each_range P a (suc n) all = (all a (omega arith) (omega arith), each_range P (a + 1) n (λ q low high. all q (omega arith) (omega arith)))

each_filter : (P : ℕ → Type 0) (t : ℕ → Bool) (xs : List ℕ) → Each P xs → Each (λ x. P x × (t x ≡ true)) (filter t xs)
each_filter P t [] all = tt
each_filter P t (x ∷ xs) all = ⊎_elim
    (λ (passes : t x ≡ true). rw passes ((all.0, passes), each_filter P t xs all.1))
    (λ (fails : t x ≡ false). rw fails (each_filter P t xs all.1))
    (cases_Bool (t x))

each_find : (P : ℕ → Type 0) (p : ℕ → Bool) (xs : List ℕ) (k : ℕ) → Each P xs → find p xs ≡ Some k → P k
each_find P p [] k all found = absurd (cc)
each_find P p (x ∷ xs) k all found = ⊎_elim
    (λ (passes : p x ≡ true). let f = rw passes at found in let same : x ≡ k = same_Some x k f in rw same at all.0)
    (λ (fails : p x ≡ false). each_find P p xs k all.1 (rw fails at found))
    (cases_Bool (p x))

each_fails : (p : ℕ → Bool) (xs : List ℕ) → find p xs ≡ None → Each (λ x. p x ≡ false) xs
each_fails p [] none = tt
each_fails p (x ∷ xs) none = ⊎_elim
    (λ (passes : p x ≡ true). let bad = rw passes at none in absurd (cc))
    (λ (fails : p x ≡ false). (fails, each_fails p xs (rw fails at none)))
    (cases_Bool (p x))

each_all : (t : ℕ → Bool) (xs : List ℕ) → Each (λ x. t x ≡ true) xs → list_all t xs ≡ true
each_all t [] all = refl
each_all t (x ∷ xs) all = and_from (t x) _ all.0 (each_all t xs all.1)

each_wider : (P Q : ℕ → Type 0) (xs : List ℕ) → ((x : ℕ) → P x → Q x) → Each P xs → Each Q xs
each_wider P Q [] wider all = tt
each_wider P Q (x ∷ xs) wider all = (wider x all.0, each_wider P Q xs wider all.1)

-- ---- the greatest

le_self : (a : ℤ) → int_le a a ≡ true
le_self a = grind (arith, ints)

le_other : (a b : ℤ) → int_le a b ≡ false → int_le b a ≡ true
le_other a b x = grind (arith, ints)

le_then : (a b c : ℤ) → int_le a b ≡ true → int_le b c ≡ true → int_le a c ≡ true
le_then a b c x y = grind (arith, ints)

-- one of some numbers has the greatest value
greatest : (v : ℕ → ℤ) (P : ℕ → Type 0) (x : ℕ) (xs : List ℕ) → Each P (x ∷ xs) → (m : ℕ) × P m × Each (λ y. int_le (v y) (v m) ≡ true) (x ∷ xs)
greatest v P x [] all = (x, all.0, (le_self (v x), tt))
greatest v P x (y ∷ ys) all =
    let r = greatest v P y ys all.1 in
    ⊎_elim
    (λ (less : int_le (v x) (v r.0) ≡ true). (r.0, r.1, (less, r.2)))
    (λ (more : int_le (v x) (v r.0) ≡ false).
    let above : int_le (v r.0) (v x) ≡ true = le_other (v x) (v r.0) more in
    (x, all.0, (le_self (v x), each_wider (λ z. int_le (v z) (v r.0) ≡ true) (λ z. int_le (v z) (v x) ≡ true) (y ∷ ys) (λ z le. le_then (v z) (v r.0) (v x) le above) r.2)))
    (cases_Bool (int_le (v x) (v r.0)))

-- so one of them is found, if there are some
best_some : (g : Geometry) (image : List ℕ) (blocks : List ℕ) → best_of g image blocks ≡ None → blocks ≡ []
best_some g image [] none = refl
best_some g image (x ∷ xs) none =
    let fails = each_fails (λ block. list_all (λ other. int_le (score g image other) (score g image block)) (x ∷ xs)) (x ∷ xs) none in
    let r = greatest (score g image) (λ block. list_all (λ other. int_le (score g image other) (score g image block)) (x ∷ xs) ≡ false) x xs fails in
    let all = each_all (λ other. int_le (score g image other) (score g image r.0)) (x ∷ xs) r.2 in
    let bad : true ≡ false = sym all ∙ r.1 in absurd (cc)

-- ---- the candidates

none_any : (t : ℕ → Bool) (xs : List ℕ) → filter t xs ≡ [] → list_any t xs ≡ false
none_any t xs none = sym (any_counted t xs) ∙ (rw none refl)

any_passes : (s t : ℕ → Bool) (a n q : ℕ) → a ≤ q → q < a + n → s q ≡ true → t q ≡ true → list_any t (filter s (range_with_len a n)) ≡ true
any_passes s t a zero q low high x y = absurd (omega arith)
any_passes s t a (suc n) q low high x y = ⊎_elim
    (λ (here : a ≡ q). rw (here, x) (or_left (t q) _ y))
    (λ (there : a ≡ q → ⊥).
    let rest = any_passes s t (a + 1) n q (omega (arith, there)) (omega arith) x y in ⊎_elim
    (λ (passes : s a ≡ true). rw passes (or_right (t a) _ rest))
    (λ (fails : s a ≡ false). rw fails rest)
    (cases_Bool (s a)))
    (cases_eq a q)

module _ (g : Geometry) (image : List ℕ) where
  candidate_from : (block : ℕ) → block < g.blocks → (is_worth g image block && is_fitting g image block) ≡ true → IsCandidate g image block
  candidate_from block low both = let w = and_parts (is_worth g image block) _ both in record { within = low; worth = w.0; fits = w.1 }

  are_candidates : Each (IsCandidate g image) (candidates g image)
  unfolding candidates
  are_candidates =
      each_wider (λ block. (block < g.blocks) × ((is_worth g image block && is_fitting g image block) ≡ true)) (IsCandidate g image) (filter (λ block. is_worth g image block && is_fitting g image block) (range_with_len 0 g.blocks)) (λ block both. candidate_from block both.0 both.1)
      (each_filter (λ block. block < g.blocks) (λ block. is_worth g image block && is_fitting g image block) (range_with_len 0 g.blocks) (each_range (λ block. block < g.blocks) 0 g.blocks (λ q low high. omega arith)))

  are_plain : Each (λ block. IsCandidate g image block × (not (is_data_block g image block) ≡ true)) (filter (λ block. not (is_data_block g image block)) (candidates g image))
  are_plain = each_filter (IsCandidate g image) (λ block. not (is_data_block g image block)) (candidates g image) are_candidates

  first_are_candidates : Each (IsCandidate g image) (first_candidates g image)
  unfolding first_candidates
  first_are_candidates = either (nat_lt (free_blocks g image) 2 && list_any (λ block. not (is_data_block g image block)) (candidates g image))
    where
      either : (b : Bool) → Each (IsCandidate g image) (cond b (filter (λ block. not (is_data_block g image block)) (candidates g image)) (candidates g image))
      either true = each_wider (λ block. IsCandidate g image block × (not (is_data_block g image block) ≡ true)) (IsCandidate g image) (filter (λ block. not (is_data_block g image block)) (candidates g image)) (λ block both. both.0) are_plain
      either false = are_candidates

  some_plain : (other : ℕ) → IsCandidate g image other → is_data_block g image other ≡ false → list_any (λ block. not (is_data_block g image block)) (candidates g image) ≡ true
  unfolding candidates
  some_plain other is none = any_passes (λ block. is_worth g image block && is_fitting g image block) (λ block. not (is_data_block g image block)) 0 g.blocks other (omega arith) (omega (arith, is.within))
      (and_from _ _ is.worth is.fits) (rw none refl)

  none_first : first_candidates g image ≡ [] → candidates g image ≡ []
  unfolding first_candidates
  none_first none = either (nat_lt (free_blocks g image) 2) (list_any (λ block. not (is_data_block g image block)) (candidates g image)) refl none
    where
      either : (few plain : Bool) → list_any (λ block. not (is_data_block g image block)) (candidates g image) ≡ plain →
          cond (few && plain) (filter (λ block. not (is_data_block g image block)) (candidates g image)) (candidates g image) ≡ [] → candidates g image ≡ []
      either true true is none = let bad : true ≡ false = sym is ∙ none_any (λ block. not (is_data_block g image block)) (candidates g image) none in absurd (cc)
      either true false is none = none
      either false plain is none = none

  none_passes : candidates g image ≡ [] → (block : ℕ) → IsCandidate g image block → ⊥
  unfolding candidates
  none_passes none block is =
      let fails = list_any-at (λ block. is_worth g image block && is_fitting g image block) 0 g.blocks (none_any (λ block. is_worth g image block && is_fitting g image block) (range_with_len 0 g.blocks) none) block (omega arith) (omega (arith, is.within)) in
      let bad : true ≡ false = sym (and_from _ _ is.worth is.fits) ∙ fails in absurd (cc)

pub none_is_candidate : (g : Geometry) → NoneIsCandidate g
unfolding chosen_block
none_is_candidate g image block none is = none_passes g image (none_first g image (best_some g image (first_candidates g image) none)) block is

pub chosen_is_candidate : (g : Geometry) → ChosenIsCandidate g
unfolding chosen_block
chosen_is_candidate g image block chosen = each_find (IsCandidate g image) _ (first_candidates g image) block (first_are_candidates g image) chosen

pub chosen_is_plain : (g : Geometry) → ChosenIsPlain g
unfolding chosen_block first_candidates
chosen_is_plain g image block other chosen few is plain =
    let some = some_plain g image other is plain in
    let found = rw (lt-ltb (free_blocks g image) 2 few, some) at chosen in
    let both = each_find (λ block. IsCandidate g image block × (not (is_data_block g image block) ≡ true)) _ (filter (λ block. not (is_data_block g image block)) (candidates g image)) block (are_plain g image) found in
    ⊎_elim
    (λ (pages : is_data_block g image block ≡ true). let bad : false ≡ true = rw pages at both.1 in absurd (cc))
    (λ (none : is_data_block g image block ≡ false). none)
    (cases_Bool (is_data_block g image block))
