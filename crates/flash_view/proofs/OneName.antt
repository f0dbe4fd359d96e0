-- In a tidy image one header page has a name.
use Rattle.std.proofs.Common.{◌≡◌, ℕ, ◌%◌, ◌≤◌, List, true, false, ap, refl, sym, ◌∙◌, ⊎_elim}
use Rattle.std.specs.Prelude.{Option, Some, None, Ok, is_some}
use Rattle.std.specs.Option.{option_map}
use Rattle.std.proofs.lemmas.Bool.{cases_Bool, cases_eq, eq-eqb}
use Rattle.std.proofs.lemmas.Option.{none-some, same_Some}
use Rattle.geometry.specs.declared.geometry.Geometry.{Geometry}
use Rattle.table_model.specs.Table.{File}
use Rattle.image_model.specs.Places.{IsImage}
use Rattle.image_model.specs.Headers.{obj_id, name_of}
use Rattle.image_model.specs.Live.{Live, live_at, own}
use Rattle.image_model.specs.Files.{is_index, index_page}
use Rattle.image_model.specs.Tables.{has_of, counted, damaged_of}
use Rattle.image_model.specs.Tidy.{IsTidy}
use Rattle.image_laws.proofs.Finish.{has_of-within}
use Rattle.image_laws.proofs.Judge.{found_parts}
use Rattle.image_laws.proofs.Records.{bytes_same, counted-some, names-apart}
use Rattle.image_laws.proofs.Reindexed.{judged-parts}
use Rattle.image_laws.proofs.Tally.{wants}
use Rattle.image_laws.proofs.TidySteps.{neat_of}
use Rattle.image_laws.proofs.Wanted.{some_file}
use Rattle.flash_view.specs.Found.{headed, is_name, named_at, first_named, named_near}
use Rattle.flash_view.proofs.Near.{named_near_is_first}
use Rattle.flash_view.proofs.OneIndex.{index_only}

-- a live header page with a name
record HasName (page name : List ℕ) (i : ℕ) : Type 0 where
  told : name_of page ≡ Some name
  index : is_index (Some page) 0 ≡ true
  id : obj_id page % 0x8000 ≡ i

same_name : (o : Option (List ℕ)) (name : List ℕ) → is_name o name ≡ true → o ≡ Some name
same_name None name e = absurd (cc)
same_name (Some found) name e = ap (λ (x : List ℕ). Some x) (bytes_same found name e)

name_parts : (page name : List ℕ) (i : ℕ) → named_at (Some page) name ≡ Some i → HasName page name i
name_parts page name i e =
    ⊎_elim
    (λ (same : is_name (name_of page) name ≡ true).
    let id : headed (Some page) ≡ Some i = rw same at e in
    ⊎_elim
    (λ (index : is_index (Some page) 0 ≡ true). record { told = same_name (name_of page) name same; index = index; id = same_Some (obj_id page % 0x8000) i (rw index at id) })
    (λ (other : is_index (Some page) 0 ≡ false). absurd (none-some i (rw other at id)))
    (cases_Bool (is_index (Some page) 0)))
    (λ (differ : is_name (name_of page) name ≡ false). absurd (none-some i (rw differ at e)))
    (cases_Bool (is_name (name_of page) name))

some_page : (o : Option (List ℕ)) (name : List ℕ) (i : ℕ) → named_at o name ≡ Some i → (page : List ℕ) × (o ≡ Some page)
some_page None name i e = absurd (none-some i e)
some_page (Some page) name i e = (page, refl)

own_from : (live : Live) (p : ℕ) (page : List ℕ) → live p ≡ Some page → own live (obj_id page % 0x8000) p ≡ Some page
unfolding own
own_from live p page e = rw e (rw (eq-eqb _ _ refl) refl)

module _ (g : Geometry) (a : List ℕ) (is : IsImage g a) (t : IsTidy g a) (name : List ℕ) where
  -- the file of a header page with that name
  record Holder (p i : ℕ) : Type 0 where
    file : File
    has : has_of g (live_at g a) i ≡ Some (p, Ok file)
    named : file.name ≡ name
    low : 1 ≤ i
    high : i ≤ 0x7FFF

  holder : (p i : ℕ) → named_at (live_at g a p) name ≡ Some i → Holder p i
  unfolding has_of
  holder p i e =
      let s = some_page (live_at g a p) name i e in
      let page = s.0 in
      let w = name_parts page name i (ap (λ (o : Option (List ℕ)). named_at o name) (sym s.1) ∙ e) in
      let mine : own (live_at g a) i p ≡ Some page = ap (λ (k : ℕ). own (live_at g a) k p) (sym w.id) ∙ own_from (live_at g a) p page s.1 in
      let at : index_page g (own (live_at g a) i) 0 ≡ Some p = index_only g a is t i 0 p (ap (λ (o : Option (List ℕ)). is_index o 0) mine ∙ w.index) in
      let v = wants g a is (neat_of t) p page s.1 in
      let same : v.page ≡ page = same_Some v.page page (sym v.is ∙ s.1) in
      let id : obj_id v.page % 0x8000 ≡ i = ap (λ (l : List ℕ). obj_id l % 0x8000) same ∙ w.id in
      let in_table : is_some (counted (has_of g (live_at g a)) 0x7FFF (has_of g (live_at g a) i)) ≡ true = rw id at v.in_table in
      let f = some_file (counted (has_of g (live_at g a)) 0x7FFF (has_of g (live_at g a) i)) in_table in
      let h = counted-some (has_of g (live_at g a)) 0x7FFF (has_of g (live_at g a) i) f.0 f.1 in
      let x = found_parts g (own (live_at g a) i) i h.0 (Ok f.0) h.1 in
      let place : h.0 ≡ p = same_Some h.0 p (sym x.1 ∙ at) in
      let head : x.0 ≡ page = same_Some x.0 page (sym x.2 ∙ ap (own (live_at g a) i) place ∙ mine) in
      let has : has_of g (live_at g a) i ≡ Some (p, Ok f.0) = rw place at h.1 in
      let y = judged-parts g (own (live_at g a) i) i x.0 f.0 x.3 in
      let named : y.0 ≡ name = same_Some y.0 name (sym y.1 ∙ ap name_of head ∙ w.told) in
      let within = has_of-within g a i p (Ok f.0) has in
      record { file = f.0; has = has; named = ap (λ (z : File). z.name) (sym y.2) ∙ named; low = within.0; high = within.1 }

  pub one_named : (p q i j : ℕ) → named_at (live_at g a p) name ≡ Some i → named_at (live_at g a q) name ≡ Some j → p ≡ q
  unfolding damaged_of
  one_named p q i j e k =
      let x = holder p i e in
      let y = holder q j k in
      ⊎_elim
      (λ (here : p ≡ q). here)
      (λ (there : p ≡ q → ⊥). absurd (names-apart (has_of g (live_at g a)) 0x7FFF t.undamaged i j p q x.file y.file x.low x.high y.low y.high x.has y.has there (x.named ∙ sym y.named)))
      (cases_eq p q)

  -- so it doesn't matter where the search for it begins
  pub named_tidy : (near : ℕ) → option_map (λ (f : ℕ × ℕ). f.0) (named_near g a name near) ≡ first_named g a name
  named_tidy near = named_near_is_first g a name near one_named
