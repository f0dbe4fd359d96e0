-- The file of a live page of a tidy image, and where it leads to that page.
use Rattle.std.proofs.Common.{◌≡◌, ℕ, ◌+◌, ◌*◌, ◌%◌, ◌<◌, ◌≤◌, List, true, false, not, ◌&&◌, Option, Some, None, Ok, ap, refl, sym, ◌∙◌, arith, ⊎_elim}
use Rattle.std.specs.Prelude.{is_some}
use Rattle.std.specs.List.{range_with_len, list_any}
use Rattle.std.proofs.lemmas.Bool.{cases_eq, and_parts, or_cases, eq-eqb, eqb-true, not-false, ne_eqb}
use Rattle.std.proofs.lemmas.Option.{same_Some}
use Rattle.geometry.specs.declared.geometry.Geometry.{Geometry}
use Rattle.table_model.specs.Table.{File}
use Rattle.table_model.specs.Room.{data_pages, index_pages}
use Rattle.image_model.specs.Within.{entry_of_block}
use Rattle.geometry.specs.Numbers.{per_block, lookups, entries}
use Rattle.image_model.specs.Headers.{obj_id, span_of, names_index, size_of}
use Rattle.image_model.specs.Live.{Live, live_at, own}
use Rattle.image_model.specs.Places.{block_of, IsImage}
use Rattle.image_model.specs.Files.{is_index, index_page, entry_number, data_of, judged}
use Rattle.image_model.specs.Tables.{has_of, counted}
use Rattle.image_model.specs.Tidy.{IsTidy, is_number, serves}
use Rattle.image_model.specs.Kinds.{is_index_page, is_data_page, is_data_block, is_index_block}
use Rattle.image_laws.specs.SoundSteps.{IsOfKind}
use Rattle.image_laws.proofs.Damaged.{any_at}
use Rattle.image_laws.proofs.Doubled.{index-span_is}
use Rattle.image_laws.proofs.Frames.{live_parts}
use Rattle.image_laws.proofs.Judge.{found_parts, index_passes}
use Rattle.image_laws.proofs.Records.{counted-some, list_any-at}
use Rattle.image_laws.proofs.Tally.{counted-in}
use Rattle.image_laws.proofs.TidySteps.{neat_of}
use Rattle.image_laws.proofs.Wanted.{some_file}
use Rattle.image_laws.proofs.Wants.{number-is}

-- ---- an index page

pub some_index : (o : Option (List ℕ)) → is_index_page o ≡ true → (x : List ℕ) × (o ≡ Some x) × (names_index x ≡ true)
some_index None h = absurd (cc)
some_index (Some x) h = (x, refl, h)

pub index_some : (o : Option (List ℕ)) (j : ℕ) → is_index o j ≡ true → (x : List ℕ) × (o ≡ Some x) × (names_index x ≡ true) × (span_of x ≡ j)
index_some None j h = absurd (cc)
index_some (Some x) j h = let w = and_parts _ _ h in (x, refl, w.0, eqb-true _ j w.1)

-- an index page is no data page
no_data : (o : Option (List ℕ)) (page : List ℕ) (span : ℕ) → o ≡ Some page → names_index page ≡ true → is_some (data_of o span) ≡ true → ⊥
no_data o page span was index h = let none : is_some (data_of o span) ≡ false = rw was (rw index refl) in let bad : true ≡ false = sym h ∙ none in absurd (cc)

-- so one that serves its file is the first of its span
pub serves_first : (g : Geometry) (pages : Live) (head page : List ℕ) (p : ℕ) → pages p ≡ Some page → names_index page ≡ true → serves g pages head p ≡ true → index_page g pages (span_of page) ≡ Some p
unfolding serves
serves_first g pages head page p was index e =
    ⊎_elim
    (λ (yes : list_any (λ (j : ℕ). is_number (index_page g pages j) p) (range_with_len 0 (index_pages g (size_of head))) ≡ true).
    let w = any_at (λ (j : ℕ). is_number (index_page g pages j) p) 0 (index_pages g (size_of head)) yes in
    let is : index_page g pages w.0 ≡ Some p = number-is (index_page g pages w.0) p w.3 in
    let passes : is_index (Some page) w.0 ≡ true = rw was at (index_passes g pages w.0 p is) in
    ap (λ (k : ℕ). index_page g pages k) (index-span_is page w.0 passes) ∙ is)
    (λ (yes : list_any (λ (span : ℕ). is_number (entry_number g pages head span) p && is_some (data_of (pages p) span)) (range_with_len 0 (data_pages g (size_of head))) ≡ true).
    let w = any_at (λ (span : ℕ). is_number (entry_number g pages head span) p && is_some (data_of (pages p) span)) 0 (data_pages g (size_of head)) yes in
    absurd (no_data (pages p) page w.0 was index (and_parts _ _ w.3).1))
    (or_cases _ _ e)

pub own_of : (live : Live) (p : ℕ) (x : List ℕ) → live p ≡ Some x → own live (obj_id x % 0x8000) p ≡ Some x
unfolding own
own_of live p x e = rw e (rw (eq-eqb (obj_id x % 0x8000) (obj_id x % 0x8000) refl) refl)

-- the live pages of a block without data pages are index pages
pub of_kind : (g : Geometry) (image : List ℕ) (p : ℕ) (page : List ℕ) → is_data_block g image (block_of g p) ≡ false → names_index page ≡ true → IsOfKind g (live_at g image) p page
unfolding is_data_block
of_kind g image p page none index = record {
  same = λ q x is at.
      let w = entry_of_block g q (live_parts g image q x is).entry_page in
      let low : block_of g p * per_block g + lookups g ≤ q = rw at at w.0 in
      let high : q < block_of g p * per_block g + lookups g + entries g = rw at at w.1 in
      let no : is_data_page (live_at g image q) ≡ false = list_any-at (λ (r : ℕ). is_data_page (live_at g image r)) _ _ none q low high in
      let names : not (names_index x) ≡ false = rw is at no in
      not-false (names_index x) names ∙ sym index;
}

-- ---- a data page

-- the live pages of a block without index pages are data pages
pub of_data : (g : Geometry) (image : List ℕ) (p : ℕ) (page : List ℕ) → is_index_block g image (block_of g p) ≡ false → names_index page ≡ false → IsOfKind g (live_at g image) p page
unfolding is_index_block
of_data g image p page none kind = record {
  same = λ q x is at.
      let w = entry_of_block g q (live_parts g image q x is).entry_page in
      let low : block_of g p * per_block g + lookups g ≤ q = rw at at w.0 in
      let high : q < block_of g p * per_block g + lookups g + entries g = rw at at w.1 in
      let no : is_index_page (live_at g image q) ≡ false = list_any-at (λ (r : ℕ). is_index_page (live_at g image r)) _ _ none q low high in
      let names : names_index x ≡ false = rw is at no in
      names ∙ sym kind;
}

data_span : (page : List ℕ) (t : ℕ) → names_index page ≡ false → is_some (data_of (Some page) t) ≡ true → span_of page ≡ t
data_span page t kind some =
    ⊎_elim
    (λ (yes : span_of page ≡ t). yes)
    (λ (no : span_of page ≡ t → ⊥). let none : is_some (data_of (Some page) t) ≡ false = rw (kind, ne_eqb (span_of page) t no) refl in let bad : true ≡ false = sym some ∙ none in absurd (cc))
    (cases_eq (span_of page) t)

-- one that serves its file is named by the entry of its span
pub serves_data : (g : Geometry) (pages : Live) (head page : List ℕ) (p : ℕ) → pages p ≡ Some page → names_index page ≡ false → serves g pages head p ≡ true →
    (span_of page < data_pages g (size_of head)) × (entry_number g pages head (span_of page) ≡ Some p)
unfolding serves
serves_data g pages head page p was kind e =
    ⊎_elim
    (λ (yes : list_any (λ (j : ℕ). is_number (index_page g pages j) p) (range_with_len 0 (index_pages g (size_of head))) ≡ true).
    let w = any_at (λ (j : ℕ). is_number (index_page g pages j) p) 0 (index_pages g (size_of head)) yes in
    let x = index_some (pages p) w.0 (index_passes g pages w.0 p (number-is (index_page g pages w.0) p w.3)) in
    let same : x.0 ≡ page = same_Some x.0 page (sym x.1 ∙ was) in
    let bad : true ≡ false = sym x.2 ∙ ap names_index same ∙ kind in absurd (cc))
    (λ (yes : list_any (λ (t : ℕ). is_number (entry_number g pages head t) p && is_some (data_of (pages p) t)) (range_with_len 0 (data_pages g (size_of head))) ≡ true).
    let w = any_at (λ (t : ℕ). is_number (entry_number g pages head t) p && is_some (data_of (pages p) t)) 0 (data_pages g (size_of head)) yes in
    let v = and_parts _ _ w.3 in
    let some : is_some (data_of (Some page) w.0) ≡ true = ap (λ (x : Option (List ℕ)). is_some (data_of x w.0)) (sym was) ∙ v.1 in
    let span : span_of page ≡ w.0 = data_span page w.0 kind some in
    let entry : entry_number g pages head w.0 ≡ Some p = number-is (entry_number g pages head w.0) p v.0 in
    (omega (arith, w.2, span), ap (λ (t : ℕ). entry_number g pages head t) span ∙ entry))
    (or_cases _ _ e)

-- ---- its file

-- what the file of its id is
pub record Home (g : Geometry) (a : List ℕ) (id : ℕ) : Type 0 where
  pub h : ℕ
  pub head : List ℕ
  pub f : File
  pub has : has_of g (live_at g a) id ≡ Some (h, Ok f)
  pub at : index_page g (own (live_at g a) id) 0 ≡ Some h
  pub header : own (live_at g a) id h ≡ Some head
  pub file : judged g (own (live_at g a) id) id head ≡ Ok f

pub home_of : (g : Geometry) (a : List ℕ) → IsImage g a → IsTidy g a → (p : ℕ) (page : List ℕ) → live_at g a p ≡ Some page → Home g a (obj_id page % 0x8000)
unfolding has_of
home_of g a is t p page live =
    let yes = counted-in g a is (neat_of t) (obj_id page % 0x8000) p page (own_of (live_at g a) p page live) in
    let f = some_file (counted (has_of g (live_at g a)) 0x7FFF (has_of g (live_at g a) (obj_id page % 0x8000))) yes in
    let w = counted-some (has_of g (live_at g a)) 0x7FFF (has_of g (live_at g a) (obj_id page % 0x8000)) f.0 f.1 in
    let v = found_parts g (own (live_at g a) (obj_id page % 0x8000)) (obj_id page % 0x8000) w.0 (Ok f.0) w.1 in
    record { h = w.0; head = v.0; f = f.0; has = w.1; at = v.1; header = v.2; file = v.3 }
