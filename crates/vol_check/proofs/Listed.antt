-- Header pages of files of the table, by their marks.
use Rattle.std.proofs.Common.{◌≡◌, ℕ, ◌+◌, ◌≤◌, List, true, false, Option, Some, None, Result, Ok, Err, ap, refl, ◌∙◌, arith, ⊎_elim, slice_index}
use Rattle.std.specs.Prelude.{is_some}
use Rattle.std.proofs.lemmas.Bool.{cases_Bool}
use Rattle.geometry.specs.declared.geometry.Geometry.{Geometry}
use Rattle.table_model.specs.Table.{File}
use Rattle.image_model.specs.declared.damage.Damage.{Damage}
use Rattle.image_model.specs.Places.{page_of}
use Rattle.image_model.specs.Live.{live_at, own}
use Rattle.image_model.specs.Files.{index_page, first_missing, judged}
use Rattle.image_model.specs.Tables.{Found, has_of, counts, counted}
use Rattle.image_laws.proofs.Wanted.{judged-whole}
use Rattle.flash_view.specs.Found.{headed}
use Rattle.flash_view.proofs.Spans.{index_known}
use Rattle.file_find.specs.Marks.{mark_of, mark_for, name_hash, cause_at, IsMarked}
use Rattle.file_find.proofs.Heads.{mark_head, header_mark}
use Rattle.file_find.proofs.Marking.{has_at}
use Rattle.file_find.proofs.Wholes.{cause_counts, counts_cause}
use Rattle.vol_check.specs.Culls.{IsSettled}
use Rattle.vol_check.specs.Needed.{IsListed, MarksListed}
use Rattle.vol_check.proofs.Resting.{headed_at, headed_counted, single_index}

-- a file of the table is whole, and counts
counted_parts : (has : Found) (m q : ℕ) (r : Result File Damage) → is_some (counted has m (Some (q, r))) ≡ true → (f : File) × (r ≡ Ok f) × (counts has m q f.name ≡ true)
counted_parts has m q (Err e) some = absurd (let bad : false ≡ true = some in cc)
counted_parts has m q (Ok f) some =
    ⊎_elim
    (λ (yes : counts has m q f.name ≡ true). (f, refl, yes))
    (λ (no : counts has m q f.name ≡ false). let bad : false ≡ true = rw no at some in absurd (cc))
    (cases_Bool (counts has m q f.name))

module _ (g : Geometry) (image : List ℕ) (id h : ℕ) where
  parts : (listed : IsListed g image id h) → (f : File) × (judged g (own (live_at g image) id) id (page_of g image h) ≡ Ok f) × (counts (has_of g (live_at g image)) 0x7FFF h f.name ≡ true)
  parts listed =
      let some : is_some (counted (has_of g (live_at g image)) 0x7FFF (Some (h, judged g (own (live_at g image) id) id (page_of g image h)))) ≡ true = rw (has_at g image id h listed.first) at listed.in_table in
      counted_parts (has_of g (live_at g image)) 0x7FFF h (judged g (own (live_at g image) id) id (page_of g image h)) some

  pub listed_whole : IsListed g image id h → first_missing g (own (live_at g image) id) (page_of g image h) ≡ None
  listed_whole listed = let w = parts listed in judged-whole g (own (live_at g image) id) id (page_of g image h) w.0 w.1

  -- ---- by the mark of the page

  kind : (r : Result File Damage) (cause : Option Damage) → 3 ≤ mark_for r cause → (f : File) × (r ≡ Ok f) × (cause ≡ None)
  kind (Err e) cause more = absurd (omega (arith, more))
  kind (Ok f) None more = (f, refl, refl)
  kind (Ok f) (Some x) more = absurd (omega (arith, more))

  pub listed_by : (mark : ℕ) → headed (live_at g image h) ≡ Some id → mark ≡ mark_of g image h → 3 ≤ mark → IsListed g image id h
  listed_by mark heads is more =
      let first = mark_head g image h id heads (λ z. omega (arith, z, is, more)) in
      let w = kind (judged g (own (live_at g image) id) id (page_of g image h)) (cause_at g image id) (omega (arith, more, is, header_mark g image id h first)) in
      let has : has_of g (live_at g image) id ≡ Some (h, Ok w.0) = has_at g image id h first ∙ ap (λ (r : Result File Damage). Some (h, r)) w.1 in
      record { first = first; in_table = rw has (rw (cause_counts g image id h w.0 has w.2) refl) }

  pub listed_mark : IsListed g image id h → 3 ≤ mark_of g image h
  listed_mark listed =
      let w = parts listed in
      let has : has_of g (live_at g image) id ≡ Some (h, Ok w.0) = has_at g image id h listed.first ∙ ap (λ (r : Result File Damage). Some (h, r)) w.1 in
      let mark : mark_of g image h ≡ 3 + name_hash w.0.name = header_mark g image id h listed.first ∙ rw (w.1, counts_cause g image id h w.0 has w.2) refl in
      omega (arith, mark)

-- the marks of header pages tell those of files of the table
pub marked_listed : (g : Geometry) (image marks : List ℕ) → IsMarked g image marks → MarksListed g image 3 marks
marked_listed g image marks marked h low = record {
  listed = λ id heads more. listed_by g image id h (slice_index marks h) heads (marked.each h low) more;
  enough = λ id listed. let mark = listed_mark g image id h listed in omega (arith, mark, marked.each h low);
}

-- where no page is doubled and nothing is damaged each header page is that of one
pub settled_listed : (g : Geometry) (image marks : List ℕ) → IsSettled g image → MarksListed g image 0 marks
settled_listed g image marks settled h low = record {
  listed = λ id heads more.
      let w = headed_at (live_at g image h) id heads in
      let first : index_page g (own (live_at g image) id) 0 ≡ Some h = rw (w.4, w.3) at (single_index g image h w.0 (settled.single h) w.1 w.2) in
      record { first = first; in_table = headed_counted g image id h (page_of g image h) settled.undamaged first (index_known g image id 0 h first) };
  enough = λ id listed. omega arith;
}
