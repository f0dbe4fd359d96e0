-- Killing the header page of an id that is not in the table.
use Rattle.std.proofs.Common.{◌≡◌, ◌≢◌, ℕ, zero, suc, ◌+◌, ◌*◌, ◌%◌, ◌<◌, ◌≤◌, List, [], ◌∷◌, map, slice_index, true, false, Option, Some, None, Result, Ok, Err, ap, refl, sym, ◌∙◌, arith, ⊎_elim, subst}
use Rattle.std.proofs.Math.Path.{fun_ext}
use Rattle.std.specs.Prelude.{is_some}
use Rattle.std.specs.List.{range_with_len, filter_map, cons_option, Contains}
use Rattle.std.proofs.lemmas.List.Elements.{Contains-append_left, Contains-append_right, Contains-append_cases, Contains-push, Contains-push_cases}
use Rattle.std.proofs.lemmas.Bool.{cases_eq, cases_Bool, false_from_ne_true}
use Rattle.std.proofs.lemmas.Option.{none-some, same_Some, some_pair_parts}
use Rattle.geometry.specs.declared.geometry.Geometry.{Geometry}
use Rattle.image_model.specs.declared.damage.Damage.{Damage}
use Rattle.geometry.specs.Numbers.{page_count}
use Rattle.image_model.specs.Live.{live_at, Live, own}
use Rattle.image_model.specs.Headers.{obj_id}
use Rattle.image_laws.specs.Changes.{Loses}
use Rattle.table_model.specs.Table.{File}
use Rattle.image_model.specs.Tables.{Found, has_of, counts, counted, damage, damages, records, table_of, damaged_of}
use Rattle.image_model.specs.Files.{is_index, index_page, found}
use Rattle.image_model.specs.Tidy.{is_wanted, is_wanted_as}
use Rattle.image_model.specs.Sound.{Keeps}
use Rattle.image_laws.specs.IndexStage.{DamagedHeadKeeps}
use Rattle.image_laws.proofs.Damaged.{counts-hidden, counts-whole, counted-whole, whole_of, Winner, winner}
use Rattle.image_laws.proofs.Judge.{found_parts, found_none}
use Rattle.image_laws.proofs.Tables.{find_none}
use Rattle.image_laws.proofs.Finish.{own-parts}
use Rattle.image_laws.proofs.Frames.{live_parts}
use Rattle.image_laws.proofs.Bits.{one_bit_image}
use Rattle.image_laws.proofs.Kill.{killing-loses, own-loses, own-loses_other}
use Rattle.image_laws.proofs.Sounding.{mixed-from, magics-same, loses-back, magic-flags, keeps-itself}

-- ---- which ids are damaged

abbrev Pair : Type 0
Pair = ℕ × Damage

named : (h : ℕ → Option Pair) (a n : ℕ) → List ℕ
named h a n = map (λ (d : Pair). d.0) (filter_map h (range_with_len a n))

none_there : (i : ℕ) → Contains {X = ℕ} [] i → ⊥
none_there i c = omega (arith, c.1)

named_from : (h : ℕ → Option Pair) (a n i : ℕ) → ((j : ℕ) (d : Pair) → h j ≡ Some d → d.0 ≡ j) → Contains (named h a n) i → (a ≤ i) × (i < a + n) × (is_some (h i) ≡ true)
unfolding named
named_from h a zero i key c = absurd (none_there i c)
named_from h a (suc n) i key c =
    let go : (o : Option Pair) → h a ≡ o → Contains (map (λ (d : Pair). d.0) (cons_option o (filter_map h (range_with_len (a + 1) n)))) i → (a ≤ i) × (i < a + suc n) × (is_some (h i) ≡ true) =
    λ o. elim o as (λ (o : Option Pair). h a ≡ o → Contains (map (λ (d : Pair). d.0) (cons_option o (filter_map h (range_with_len (a + 1) n)))) i → (a ≤ i) × (i < a + suc n) × (is_some (h i) ≡ true)) [
      | None ↦ λ e k. let w = named_from h (a + 1) n i key k in (omega (arith, w.0), omega (arith, w.1), w.2)
      | Some d ↦ λ e k. ⊎_elim
          (λ (here : Contains (d.0 ∷ []) i).
          let at : d.0 ≡ i = ⊎_elim (λ (x : Contains {X = ℕ} [] i). absurd (none_there i x)) (λ (y : d.0 ≡ i). y) (Contains-push_cases [] d.0 i here) in
          let same : a ≡ i = sym (key a d e) ∙ at in
          (omega arith, omega arith, rw (sym same) (rw e refl)))
          (λ (there : Contains (map (λ (d : Pair). d.0) (filter_map h (range_with_len (a + 1) n))) i). let w = named_from h (a + 1) n i key there in (omega (arith, w.0), omega (arith, w.1), w.2))
          (Contains-append_cases (d.0 ∷ []) (map (λ (d : Pair). d.0) (filter_map h (range_with_len (a + 1) n))) i k)
    ] in
    go (h a) refl c

named_to : (h : ℕ → Option Pair) (a n i : ℕ) → ((j : ℕ) (d : Pair) → h j ≡ Some d → d.0 ≡ j) → a ≤ i → i < a + n → is_some (h i) ≡ true → Contains (named h a n) i
unfolding named
named_to h a zero i key low high some = absurd (omega arith)
named_to h a (suc n) i key low high some =
    let go : (o : Option Pair) → h a ≡ o → Contains (map (λ (d : Pair). d.0) (cons_option o (filter_map h (range_with_len (a + 1) n)))) i =
    λ o. elim o as (λ (o : Option Pair). h a ≡ o → Contains (map (λ (d : Pair). d.0) (cons_option o (filter_map h (range_with_len (a + 1) n)))) i) [
      | None ↦ λ e. ⊎_elim
          (λ (here : a ≡ i). let s : is_some (h a) ≡ true = rw here some in let bad : false ≡ true = rw e at s in absurd (cc))
          (λ (there : a ≡ i → ⊥). named_to h (a + 1) n i key (omega (arith, there)) (omega arith) some)
          (cases_eq a i)
      | Some d ↦ λ e. ⊎_elim
          (λ (here : a ≡ i). Contains-append_left (d.0 ∷ []) (map (λ (d : Pair). d.0) (filter_map h (range_with_len (a + 1) n))) i (subst (λ (k : ℕ). Contains (d.0 ∷ []) k) (key a d e ∙ here) (Contains-push [] d.0)))
          (λ (there : a ≡ i → ⊥). Contains-append_right (d.0 ∷ []) (map (λ (d : Pair). d.0) (filter_map h (range_with_len (a + 1) n))) i (named_to h (a + 1) n i key (omega (arith, there)) (omega arith) some))
          (cases_eq a i)
    ] in
    go (h a) refl

damage-key : (has : Found) (m j : ℕ) (o : Option (ℕ × Result File Damage)) (d : Pair) → damage has m j o ≡ Some d → d.0 ≡ j
damage-key has m j None d h = absurd (none-some d h)
damage-key has m j (Some (q, Err e)) d h = let s : (j, e) ≡ d = same_Some (j, e) d h in ap (λ (x : Pair). x.0) (sym s)
damage-key has m j (Some (q, Ok f)) d h =
    ⊎_elim
    (λ (yes : counts has m q f.name ≡ true). absurd (none-some d (rw yes at h)))
    (λ (no : counts has m q f.name ≡ false). let k = rw no at h in let s = same_Some _ d k in ap (λ (x : Pair). x.0) (sym s))
    (cases_Bool (counts has m q f.name))

damage-some : (has now : Found) (m j : ℕ) (o : Option (ℕ × Result File Damage)) → ((q : ℕ) (name : List ℕ) → counts now m q name ≡ counts has m q name) → is_some (damage now m j o) ≡ is_some (damage has m j o)
damage-some has now m j None c = refl
damage-some has now m j (Some (q, Err e)) c = refl
damage-some has now m j (Some (q, Ok f)) c =
    rw (c q f.name) (⊎_elim (λ (yes : counts has m q f.name ≡ true). rw yes refl) (λ (no : counts has m q f.name ≡ false). rw no refl) (cases_Bool (counts has m q f.name)))

-- ---- an id that is not in the table goes

module _ (has now : Found) (m id p : ℕ) (r : Result File Damage) (was : has id ≡ Some (p, r)) (quiet : counted has m (has id) ≡ None) (gone : now id ≡ None) (same : (j : ℕ) → j ≢ id → now j ≡ has j) where
  counts-err : whole_of (has id) ≡ None → (q : ℕ) (name : List ℕ) → counts now m q name ≡ counts has m q name
  counts-err none = counts-whole has now m (λ j. ⊎_elim
      (λ (here : j ≡ id). let a : whole_of (now j) ≡ None = rw here (rw gone refl) in let b : whole_of (has j) ≡ None = rw here none in a ∙ sym b)
      (λ (there : j ≡ id → ⊥). ap whole_of (same j there))
      (cases_eq j id))

  counts-won : (f : File) → has id ≡ Some (p, Ok f) → Winner has m p f.name → (q : ℕ) (name : List ℕ) → counts now m q name ≡ counts has m q name
  counts-won f e w =
      let other : w.id ≢ id = λ k. let at : has id ≡ Some (w.at, Ok w.file) = subst (λ (j : ℕ). has j ≡ Some (w.at, Ok w.file)) k w.is in
      let s = some_pair_parts w.at p (Ok w.file) (Ok f) (sym at ∙ e) in omega (arith, s.0, w.before) in
      counts-hidden has now m id w.id p w.at f w.file e gone same w.is other w.low w.high w.named w.before

  off : (f : File) → has id ≡ Some (p, Ok f) → counts has m p f.name ≡ false
  off f e = false_from_ne_true _ (λ passes. let counted_now : counted has m (Some (p, Ok f)) ≡ Some f = rw passes refl in
      let none : counted has m (Some (p, Ok f)) ≡ None = sym (ap (λ (o : Option (ℕ × Result File Damage)). counted has m o) e) ∙ quiet in absurd (none-some f (sym none ∙ counted_now)))

  counts-ok : (f : File) → has id ≡ Some (p, Ok f) → (q : ℕ) (name : List ℕ) → counts now m q name ≡ counts has m q name
  counts-ok f e = counts-won f e (winner has m p f.name (off f e))

  pub counts-gone : (q : ℕ) (name : List ℕ) → counts now m q name ≡ counts has m q name
  counts-gone =
      let go : (r : Result File Damage) → has id ≡ Some (p, r) → (q : ℕ) (name : List ℕ) → counts now m q name ≡ counts has m q name =
      λ r. elim r as (λ (r : Result File Damage). has id ≡ Some (p, r) → (q : ℕ) (name : List ℕ) → counts now m q name ≡ counts has m q name) [
        | Ok f ↦ λ e. counts-ok f e
        | Err x ↦ λ e. counts-err (rw e refl)
      ] in go r was

  pub counted-gone : (j : ℕ) → counted now m (now j) ≡ counted has m (has j)
  counted-gone j =
      ⊎_elim
      (λ (here : j ≡ id). let a : counted now m (now j) ≡ None = rw here (rw gone refl) in let b : counted has m (has j) ≡ None = rw here quiet in a ∙ sym b)
      (λ (there : j ≡ id → ⊥). rw (same j there) (counted-whole has now m counts-gone (has j) (has j) refl))
      (cases_eq j id)

  pub records-gone : records now m ≡ records has m
  unfolding records
  records-gone = ap (λ (h : ℕ → Option File). filter_map h (range_with_len 1 m)) (fun_ext counted-gone)

  pub damaged-gone : (i : ℕ) → Contains (map (λ (d : Pair). d.0) (damages now m)) i → Contains (map (λ (d : Pair). d.0) (damages has m)) i
  unfolding damages named
  damaged-gone i c =
      let w = named_from (λ (j : ℕ). damage now m j (now j)) 1 m i (λ j d e. damage-key now m j (now j) d e) c in
      let some : is_some (damage now m i (now i)) ≡ true = w.2 in
      named_to (λ (j : ℕ). damage has m j (has j)) 1 m i (λ j d e. damage-key has m j (has j) d e) w.0 w.1
      (⊎_elim
      (λ (here : i ≡ id). let none : is_some (damage now m i (now i)) ≡ false = rw here (rw gone refl) in let bad : false ≡ true = sym none ∙ some in absurd (cc))
      (λ (there : i ≡ id → ⊥). let moved : is_some (damage now m i (has i)) ≡ true = rw (sym (same i there)) some in sym (damage-some has now m i (has i) counts-gone) ∙ moved)
      (cases_eq i id))

module _ (g : Geometry) (p id : ℕ) (head : List ℕ) (old new : Live) (r : Result File Damage) (was : old p ≡ Some head) (of : obj_id head % 0x8000 ≡ id) (change : Loses p old new)
    (at : has_of g old id ≡ Some (p, r)) (quiet : counted (has_of g old) 0x7FFF (has_of g old id) ≡ None) (only : (q : ℕ) → is_index (own old id q) 0 ≡ true → q ≡ p) where
  gone-now : has_of g new id ≡ None
  unfolding has_of index_page
  gone-now =
      let mine = own-loses p head old new was change id in
      found_none g (own new id) id (find_none (λ (q : ℕ). is_index (own new id q) 0) (range_with_len 0 (page_count g)) (λ q. ⊎_elim
      (λ (here : q ≡ p). rw here (rw mine.after refl))
      (λ (there : q ≡ p → ⊥). false_from_ne_true _ (λ yes. there (only q (rw (mine.others q there) at yes))))
      (cases_eq q p)))

  others-now : (j : ℕ) → j ≢ id → has_of g new j ≡ has_of g old j
  unfolding has_of
  others-now j there = ap (λ (pages : Live). found g pages j) (own-loses_other p head old new was change j (λ e. there (sym e ∙ of)))

  count-now : (j : ℕ) → counted (has_of g new) 0x7FFF (has_of g new j) ≡ counted (has_of g old) 0x7FFF (has_of g old j)
  count-now = counted-gone (has_of g old) (has_of g new) 0x7FFF id p r at quiet gone-now others-now

  pub table-now : records (has_of g new) 0x7FFF ≡ records (has_of g old) 0x7FFF
  table-now = records-gone (has_of g old) (has_of g new) 0x7FFF id p r at quiet gone-now others-now

  pub damaged-now : (i : ℕ) → Contains (map (λ (d : Pair). d.0) (damages (has_of g new) 0x7FFF)) i → Contains (map (λ (d : Pair). d.0) (damages (has_of g old) 0x7FFF)) i
  damaged-now = damaged-gone (has_of g old) (has_of g new) 0x7FFF id p r at quiet gone-now others-now

  as_now : (o : Option (List ℕ)) (q : ℕ) → is_wanted_as g new o q ≡ is_wanted_as g old o q
  as_now None q = refl
  as_now (Some x) q =
      ⊎_elim
      (λ (here : obj_id x % 0x8000 ≡ id). let none : is_some (counted (has_of g old) 0x7FFF (has_of g old (obj_id x % 0x8000))) ≡ false = rw here (rw quiet refl) in rw (count-now (obj_id x % 0x8000)) (rw none refl))
      (λ (there : obj_id x % 0x8000 ≡ id → ⊥).
      let pages : own new (obj_id x % 0x8000) ≡ own old (obj_id x % 0x8000) = own-loses_other p head old new was change (obj_id x % 0x8000) (λ e. there (sym e ∙ of)) in
      rw (count-now (obj_id x % 0x8000), pages) refl)
      (cases_eq (obj_id x % 0x8000) id)

  pub wanted-now : (q : ℕ) → q ≢ p → is_wanted_as g new (new q) q ≡ is_wanted_as g old (old q) q
  wanted-now q there = rw (change.others q there) (as_now (old q) q)

pub damaged_head-keeps : (g : Geometry) → DamagedHeadKeeps g
unfolding table_of damaged_of is_wanted has_of
damaged_head-keeps g a b p flags id r is h at quiet only clears torn =
    let w = found_parts g (own (live_at g a) id) id p r at in
    let v = own-parts (live_at g a) id p w.0 w.2 in
    let entry = (live_parts g a p w.0 v.0).entry_page in
    ⊎_elim
    (λ (same : b ≡ a). (subst (λ (x : List ℕ). Keeps g a x) (sym same) (keeps-itself g a h), λ q there. ap (λ (x : List ℕ). is_wanted_as g (live_at g x) (live_at g x q) q) same))
    (λ (done : slice_index b (p * g.page + 4) ≡ flags).
    let loses = killing-loses g a b p flags is entry clears.cleared torn done in (
      record {
        sound = record {
          magics = magics-same g a b h (magic-flags g a b p flags is entry torn);
          mixed = λ c m. mixed-from g (live_at g a) (live_at g b) c (loses-back p (live_at g a) (live_at g b) loses) m;
          damaged = damaged-now g p id w.0 (live_at g a) (live_at g b) r v.0 v.1 loses at quiet only;
        };
        table = table-now g p id w.0 (live_at g a) (live_at g b) r v.0 v.1 loses at quiet only;
      },
      wanted-now g p id w.0 (live_at g a) (live_at g b) r v.0 v.1 loses at quiet only,
    ))
    (one_bit_image 7 (p * g.page + 4) flags a b clears torn)
