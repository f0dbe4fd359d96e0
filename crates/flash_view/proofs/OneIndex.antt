-- In a tidy image an object has one index page of a span.
use Rattle.std.proofs.Common.{◌≡◌, ℕ, ◌%◌, List, true, false, ◌&&◌, ◌==◌, ap, refl, sym, ◌∙◌, ⊎_elim}
use Rattle.std.specs.Prelude.{Option, Some, None, is_some}
use Rattle.std.specs.List.{range_with_len, list_any}
use Rattle.std.proofs.lemmas.Bool.{and_parts, or_cases, cases_Bool, eqb-true, false≢true}
use Rattle.std.proofs.lemmas.Option.{same_Some}
use Rattle.geometry.specs.declared.geometry.Geometry.{Geometry}
use Rattle.table_model.specs.Room.{index_pages, data_pages}
use Rattle.image_model.specs.Places.{IsImage}
use Rattle.image_model.specs.Headers.{obj_id, names_index, span_of, size_of}
use Rattle.image_model.specs.Live.{Live, live_at, own}
use Rattle.image_model.specs.Files.{is_index, index_page, entry_number, data_of}
use Rattle.image_model.specs.Tidy.{IsTidy, is_number, serves}
use Rattle.image_laws.proofs.Damaged.{any_at}
use Rattle.image_laws.proofs.Judge.{index_passes}
use Rattle.image_laws.proofs.Append.{own-some}
use Rattle.image_laws.proofs.Finish.{own-parts}
use Rattle.image_laws.proofs.Wants.{number-is}
use Rattle.image_laws.proofs.Tally.{wants}
use Rattle.image_laws.proofs.TidySteps.{neat_of}
use Rattle.flash_view.specs.Found.{index_near, headed}
use Rattle.flash_view.proofs.Near.{near_is_first}

some_index : (o : Option (List ℕ)) (span : ℕ) → is_index o span ≡ true → (x : List ℕ) × (o ≡ Some x)
some_index None span e = absurd (false≢true e)
some_index (Some x) span e = (x, refl)

one_span : (x : List ℕ) (j span : ℕ) → is_index (Some x) span ≡ true → is_index (Some x) j ≡ true → j ≡ span
one_span x j span e k = sym (eqb-true (span_of x) j (and_parts (names_index x) (span_of x == j) k).1) ∙ eqb-true (span_of x) span (and_parts (names_index x) (span_of x == span) e).1

no_data : (o : Option (List ℕ)) (x : List ℕ) (span other : ℕ) → o ≡ Some x → is_index (Some x) span ≡ true → is_some (data_of o other) ≡ true → ⊥
no_data None x span other is e k = false≢true k
no_data (Some y) x span other is e k =
    let same : y ≡ x = same_Some y x is in
    let index : names_index y ≡ true = rw same (and_parts (names_index x) (span_of x == span) e).0 in false≢true (rw index at k)

module _ (g : Geometry) (a : List ℕ) (is : IsImage g a) (t : IsTidy g a) (id span : ℕ) where
  -- an index page is the one that a search finds
  pub index_only : (p : ℕ) → is_index (own (live_at g a) id p) span ≡ true → index_page g (own (live_at g a) id) span ≡ Some p
  unfolding serves
  index_only p e =
      let w = some_index (own (live_at g a) id p) span e in
      let x = w.0 in
      let parts = own-parts (live_at g a) id p x w.1 in
      let index : is_index (Some x) span ≡ true = ap (λ (o : Option (List ℕ)). is_index o span) (sym w.1) ∙ e in
      let v = wants g a is (neat_of t) p x parts.0 in
      let same : v.page ≡ x = same_Some v.page x (sym v.is ∙ parts.0) in
      let mine : obj_id v.page % 0x8000 ≡ id = ap (λ (l : List ℕ). obj_id l % 0x8000) same ∙ parts.1 in
      let serving : serves g (own (live_at g a) id) v.head p ≡ true = rw mine at v.served in
      ⊎_elim
      (λ (y : list_any (λ (j : ℕ). is_number (index_page g (own (live_at g a) id) j) p) (range_with_len 0 (index_pages g (size_of v.head))) ≡ true).
      let n = any_at (λ (j : ℕ). is_number (index_page g (own (live_at g a) id) j) p) 0 (index_pages g (size_of v.head)) y in
      let at = number-is (index_page g (own (live_at g a) id) n.0) p n.3 in
      let passes = index_passes g (own (live_at g a) id) n.0 p at in
      let this : n.0 ≡ span = one_span x n.0 span index (ap (λ (o : Option (List ℕ)). is_index o n.0) (sym w.1) ∙ passes) in
      rw this at at)
      (λ (y : list_any (λ (s : ℕ). is_number (entry_number g (own (live_at g a) id) v.head s) p && is_some (data_of (own (live_at g a) id p) s)) (range_with_len 0 (data_pages g (size_of v.head))) ≡ true).
      let n = any_at (λ (s : ℕ). is_number (entry_number g (own (live_at g a) id) v.head s) p && is_some (data_of (own (live_at g a) id p) s)) 0 (data_pages g (size_of v.head)) y in
      let k = (and_parts (is_number (entry_number g (own (live_at g a) id) v.head n.0) p) (is_some (data_of (own (live_at g a) id p) n.0)) n.3).1 in
      absurd (no_data (own (live_at g a) id p) x span n.0 w.1 index k))
      (or_cases _ _ serving)

  pub one_index : (p q : ℕ) → is_index (own (live_at g a) id p) span ≡ true → is_index (own (live_at g a) id q) span ≡ true → p ≡ q
  one_index p q e k = same_Some p q (sym (index_only p e) ∙ index_only q k)

  -- so it doesn't matter where the search for it begins
  pub near_tidy : (near : ℕ) → index_near g (own (live_at g a) id) span near ≡ index_page g (own (live_at g a) id) span
  near_tidy near = near_is_first g (own (live_at g a) id) span near one_index

-- a page that is an id's header page is an index page of the id
headed_own : (live : Live) (id p : ℕ) (o : Option (List ℕ)) → live p ≡ o → Some id ≡ headed o → is_index (own live id p) 0 ≡ true
headed_own live id p None at e = absurd (cc)
headed_own live id p (Some page) at e =
    ⊎_elim
    (λ (yes' : is_index (Some page) 0 ≡ true).
    let same : Some id ≡ Some (obj_id page % 0x8000) = rw yes' at e in
    let mine : obj_id page % 0x8000 ≡ id = cc in
    rw (own-some live id p page at mine) yes')
    (λ (no' : is_index (Some page) 0 ≡ false). let none : Some id ≡ None = rw no' at e in absurd (cc))
    (cases_Bool (is_index (Some page) 0))

-- so it is the one that a search finds
pub header_only : (g : Geometry) (a : List ℕ) → IsImage g a → IsTidy g a → (id p : ℕ) → Some id ≡ headed (live_at g a p) → Some p ≡ index_page g (own (live_at g a) id) 0
header_only g a is t id p e = sym (index_only g a is t id 0 p (headed_own (live_at g a) id p (live_at g a p) refl e))
