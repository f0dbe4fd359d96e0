-- Data pages by the entries that name them.
use Rattle.std.proofs.Common.{◌≡◌, ◌≢◌, ℕ, zero, suc, ◌+◌, ◌%◌, ◌<◌, ◌≤◌, ◌==◌, ◌&&◌, not, nat_lt, Bool, true, false, List, refl, ap, ◌∙◌, if◌then◌else◌, ⊎_elim, arith}
use Rattle.std.specs.Prelude.{Result, Ok, Err, IfOk, Option, Some, None, find, is_some, option_and_then}
use Rattle.std.specs.List.{range_with_len}
use Rattle.std.specs.Option.{option_map}
use Rattle.std.proofs.lemmas.Bool.{cases_Bool, cases_lt, eqb-true, lt-ltb, le-ltb}
use Rattle.geometry.specs.declared.geometry.Geometry.{Geometry}
use Rattle.geometry.specs.Numbers.{head_slots, page_count, per_block}
use Rattle.page_layout.specs.declared.header.PageHeader.{PageHeader}
use Rattle.page_layout.specs.Layout.{header_at, names_index as names_index_head}
use Rattle.image_model.specs.Headers.{obj_id, span_of, names_index}
use Rattle.nor_core.specs.Flash.{word_at}
use Rattle.image_model.specs.Places.{page_of, entry_of, is_entry_page}
use Rattle.image_model.specs.Live.{Live, live_at, is_live, own}
use Rattle.image_model.specs.Files.{is_index, index_page, further, index_span, slot_at, entry_number, data_of}
use Rattle.flash_view.specs.DataPages.{lookup_entry, numbered, data_number}
use Rattle.flash_view.specs.Places.{IsEntryPage}
use Rattle.flash_view.proofs.Heads.{entry_page_told}
use Rattle.flash_view.proofs.Entries.{live_page}

-- ---- whether a page is a data page

own_data : (page : List ℕ) (mine : Bool) (span : ℕ) → is_some (data_of (if mine then Some page else None) span) ≡ (mine && is_some (data_of (Some page) span))
own_data page true span = refl
own_data page false span = refl

some_data : (page : List ℕ) (is : Bool) → is_some (if is then Some page else None) ≡ is
some_data page true = refl
some_data page false = refl

seen : (o : Option (List ℕ)) (id span : ℕ) (head : PageHeader) → Some head ≡ option_map header_at o →
    is_some (data_of (option_and_then (λ page. if obj_id page % 0x8000 == id then Some page else None) o) span) ≡ ((head.id % 0x8000 == id) && (not (names_index_head head) && (head.span == span)))
seen None id span head e = absurd (cc)
seen (Some page) id span head e =
    let is : head ≡ header_at page = cc in
    own_data page (obj_id page % 0x8000 == id) span ∙ rw (is, some_data page (not (names_index page) && (span_of page == span))) refl

-- by its header a live page is a data page of an object and a span
pub data_seen : (live : Live) (p id span : ℕ) (head : PageHeader) → Some head ≡ option_map header_at (live p) →
    is_some (data_of (own live id p) span) ≡ ((head.id % 0x8000 == id) && (not (names_index_head head) && (head.span == span)))
unfolding own
data_seen live p id span head e = seen (live p) id span head e

unseen : (o : Option (List ℕ)) (id span : ℕ) → None ≡ option_map header_at o → is_some (data_of (option_and_then (λ page. if obj_id page % 0x8000 == id then Some page else None) o) span) ≡ false
unseen None id span e = refl
unseen (Some page) id span e = absurd (cc)

pub data_unseen : (live : Live) (p id span : ℕ) → None ≡ option_map header_at (live p) → is_some (data_of (own live id p) span) ≡ false
unfolding own
data_unseen live p id span e = unseen (live p) id span e

-- past the volume's end no page is live
beyond : (g : Geometry) (image : List ℕ) (p : ℕ) → page_count g ≤ p → live_at g image p ≡ None
unfolding live_at is_live is_entry_page page_count per_block
beyond g image p far = rw (le-ltb p (page_count g) far) refl

pub data_beyond : (g : Geometry) (image : List ℕ) (p id span : ℕ) → page_count g ≤ p → is_some (data_of (own (live_at g image) id p) span) ≡ false
unfolding own
data_beyond g image p id span far = rw (beyond g image p far) refl

other_data : (page : List ℕ) (id span : ℕ) (mine index same : Bool) → (mine ≡ true → index ≡ false → ⊥) → (mine && (not index && same)) ≡ false
other_data page id span true false same no' = absurd (no' refl refl)
other_data page id span true true same no' = refl
other_data page id span false index same no' = refl

same_id : (n id : ℕ) → (n % 0x8000 == id) ≡ true → not (nat_lt n 0x8000) ≡ false → n ≡ id
same_id n id mine low =
    let e : n % 0x8000 ≡ id = eqb-true _ _ mine in
    ⊎_elim
    (λ (below : n < 0x8000). omega (arith, e))
    (λ (above : 0x8000 ≤ n). let f : nat_lt n 0x8000 ≡ false = le-ltb n 0x8000 above in let t : not (nat_lt n 0x8000) ≡ true = rw f refl in absurd (cc))
    (cases_lt n 0x8000)

pub data_other : (o : Option (List ℕ)) (entry id span : ℕ) → ((page : List ℕ) → o ≡ Some page → entry ≡ obj_id page) → entry ≢ id →
    is_some (data_of (option_and_then (λ page. if obj_id page % 0x8000 == id then Some page else None) o) span) ≡ false
data_other None entry id span known differ = refl
data_other (Some page) entry id span known differ =
    own_data page (obj_id page % 0x8000 == id) span
    ∙ rw (some_data page (not (names_index page) && (span_of page == span))) (other_data page id span (obj_id page % 0x8000 == id) (names_index page) (span_of page == span) (λ mine low. differ (known page refl ∙ same_id (obj_id page) id mine low)))

-- a page whose entry isn't the id is no data page of it
pub passed_data : (g : Geometry) (image : List ℕ) (p id span entry : ℕ) → entry ≡ lookup_entry g image p → entry ≢ id → is_some (data_of (own (live_at g image) id p) span) ≡ false
unfolding own
passed_data g image p id span entry is differ = data_other (live_at g image p) entry id span (λ page e. is ∙ (live_page g image p page e).entry) differ

-- by its lookup page and its entry
pub data_lookup : (g : Geometry) (image : List ℕ) (p id span : ℕ) → is_entry_page g p ≡ false → is_some (data_of (own (live_at g image) id p) span) ≡ false
unfolding own live_at is_live
data_lookup g image p id span none = rw none refl

pub data_passed : (g : Geometry) (image : List ℕ) (p id span entry : ℕ) → IsEntryPage g p → entry ≡ entry_of g image p → entry ≢ id → is_some (data_of (own (live_at g image) id p) span) ≡ false
unfolding lookup_entry
data_passed g image p id span entry place is differ = passed_data g image p id span entry (rw (entry_page_told g p place) is) differ

-- ---- index pages that are there

find_passes : (test : ℕ → Bool) (a n q : ℕ) → find test (range_with_len a n) ≡ Some q → test q ≡ true
find_passes test a zero q h = absurd (cc)
find_passes test a (suc n) q h =
    ⊎_elim
    (λ (yes' : test a ≡ true). let e : Some a ≡ Some q = rw yes' at h in let f : a ≡ q = cc in rw f at yes')
    (λ (no' : test a ≡ false). find_passes test (a + 1) n q (rw no' at h))
    (cases_Bool (test a))

own_one : (page : List ℕ) (mine : Bool) (span : ℕ) → is_index (if mine then Some page else None) span ≡ true → (if mine then Some page else None) ≡ Some page
own_one page true span e = refl
own_one page false span e = absurd (cc)

own_live : (page : List ℕ) (live : Bool) (id span : ℕ) → is_index (option_and_then (λ x. if obj_id x % 0x8000 == id then Some x else None) (if live then Some page else None)) span ≡ true →
    option_and_then (λ x. if obj_id x % 0x8000 == id then Some x else None) (if live then Some page else None) ≡ Some page
own_live page true id span e = own_one page (obj_id page % 0x8000 == id) span e
own_live page false id span e = absurd (cc)

-- the index page of a span is a page of the image
pub index_known : (g : Geometry) (image : List ℕ) (id span q : ℕ) → index_page g (own (live_at g image) id) span ≡ Some q → own (live_at g image) id q ≡ Some (page_of g image q)
unfolding index_page own live_at
index_known g image id span q e = own_live (page_of g image q) (is_live g image q) id span (find_passes (λ (p : ℕ). is_index (own (live_at g image) id p) span) 0 (page_count g) q e)

-- ---- the number of a data page

module _ (g : Geometry) (pages : Live) (head : List ℕ) (span : ℕ) where
  pub number_near : span < head_slots g → numbered pages span (word_at head (slot_at g span)) ≡ data_number g pages head span
  unfolding data_number entry_number
  number_near low = rw (lt-ltb span (head_slots g) low) refl

  pub number_behind : (page : List ℕ) (q : ℕ) → head_slots g ≤ span → index_page g pages (index_span g span) ≡ Some q → pages q ≡ Some page →
      numbered pages span (word_at page (slot_at g span)) ≡ data_number g pages head span
  unfolding data_number entry_number
  number_behind page q high is holds =
      let first : index_page g pages (further g span) ≡ Some q = rw (le-ltb span (head_slots g) high) at is in
      rw (le-ltb span (head_slots g) high) (rw first (rw holds refl))

  pub number_none : head_slots g ≤ span → index_page g pages (index_span g span) ≡ None → None ≡ data_number g pages head span
  unfolding data_number entry_number
  number_none high none =
      let first : index_page g pages (further g span) ≡ None = rw (le-ltb span (head_slots g) high) at none in
      rw (le-ltb span (head_slots g) high) (rw first refl)

-- ---- answers that are told

pub told_along : {A E : Type 0} (r : Result A E) (x y : A) → IfOk r (λ v. v ≡ x) → x ≡ y → IfOk r (λ v. v ≡ y)
told_along (Ok v) x y told e = told ∙ e
told_along (Err e) x y told same = told

-- the same of what a function makes of them
pub told_made : {A B E : Type 0} (made : A → B) (r : Result A E) (x : A) (y : B) → IfOk r (λ v. v ≡ x) → made x ≡ y → IfOk r (λ v. made v ≡ y)
told_made made (Ok v) x y told e = ap made told ∙ e
told_made made (Err e) x y told same = told
