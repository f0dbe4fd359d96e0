-- HalfProgrammed programs of a page that is not finished.
use Rattle.std.proofs.Common.{◌≡◌, ℕ, ◌+◌, ◌-◌, ◌*◌, ◌<◌, ◌≤◌, List, length, slice_index, true, refl, arith, ⊎_elim, get_or-take, get_or-drop}
use Rattle.std.proofs.lemmas.Bool.{cases_lt, eq-eqb, eqb-true}
use Rattle.std.specs.Int.{bit_at}
use Rattle.geometry.specs.declared.geometry.Geometry.{Geometry}
use Rattle.image_model.specs.Within.{sizes}
use Rattle.geometry.specs.Numbers.{lookups}
use Rattle.nor_core.specs.Flash.{SameOutside, HalfProgrammed}
use Rattle.image_model.specs.Within.{Sizes}
use Rattle.image_model.specs.Live.{live_at}
use Rattle.image_model.specs.Headers.{is_flag_set}
use Rattle.image_model.specs.Places.{page_of, block_of, place_of, is_entry_page}
use Rattle.image_laws.proofs.BetweenTorn.{torn_byte}
use Rattle.image_laws.proofs.Frames.{finished_from_flag, live-page_changed, live-entry_changed, page-same_entry, table_of-same, damaged_of-same}
use Rattle.image_laws.specs.Programs.{PlacingEntryKeeps, PlacingPageKeeps}

-- a byte of a page
pub page_byte : (g : Geometry) (image : List ℕ) (p i : ℕ) → i < g.page → slice_index (page_of g image p) i ≡ slice_index image (p * g.page + i)
unfolding page_of
page_byte g image p i small = let near : i < p * g.page + g.page - p * g.page = omega arith in rw (get_or-take, get_or-drop) refl

pub flag_of : (page : List ℕ) (k : ℕ) → is_flag_set page k ≡ true → bit_at (slice_index page 4) k ≡ 1
flag_of page k h = eqb-true _ 1 h

pub flag_from : (page : List ℕ) (k : ℕ) → bit_at (slice_index page 4) k ≡ 1 → is_flag_set page k ≡ true
flag_from page k h = eq-eqb _ 1 h

-- a change inside a range is one inside a wider range
pub wider : (at n from m : ℕ) (a b : List ℕ) → from ≤ at → at + n ≤ from + m → SameOutside at n a b → SameOutside from m a b
wider at n from m a b low high h = record {
  size = h.size;
  before = λ i x. h.before i (omega arith);
  after = λ i x. h.after i (omega arith);
}

module _ (g : Geometry) (geo : Sizes g) (a b : List ℕ) (p : ℕ) (entry_page : is_entry_page g p ≡ true) (final : is_flag_set (page_of g a p) 1 ≡ true) where
  -- a program in the page that does not clear FINAL leaves it set, also where it is cut off
  pub final-kept : (at : ℕ) (asked : List ℕ) → HalfProgrammed at asked a b → ((i : ℕ) → i < length asked → at + i ≡ p * g.page + 4 → bit_at (slice_index asked i) 1 ≡ 1) →
      is_flag_set (page_of g b p) 1 ≡ true
  final-kept at asked h keeps =
      let old : bit_at (slice_index (page_of g a p) 4) 1 ≡ 1 = flag_of (page_of g a p) 1 final in
      let was : bit_at (slice_index a (p * g.page + 4)) 1 ≡ 1 = rw (page_byte g a p 4 (omega (arith, geo.page))) at old in
      let now : bit_at (slice_index b (p * g.page + 4)) 1 ≡ 1 =
      ⊎_elim
      (λ (x : p * g.page + 4 < at). rw (h.outside.before (p * g.page + 4) x) was)
      (λ (x : at ≤ p * g.page + 4). ⊎_elim
      (λ (y : p * g.page + 4 < at + length asked).
      let place : at + (p * g.page + 4 - at) ≡ p * g.page + 4 = omega arith in
      let bit : bit_at (slice_index b (at + (p * g.page + 4 - at))) 1 ≡ 1 =
      (torn_byte at asked a b h (p * g.page + 4 - at) (omega arith)).kept 1 (rw place was) (keeps (p * g.page + 4 - at) (omega arith) place) in
      rw place at bit)
      (λ (y : at + length asked ≤ p * g.page + 4). rw (h.outside.after (p * g.page + 4) y) was)
      (cases_lt (p * g.page + 4) (at + length asked)))
      (cases_lt (p * g.page + 4) at) in
      flag_from (page_of g b p) 1 (rw (page_byte g b p 4 (omega (arith, geo.page))) now)

  pub live-placing_page : (at : ℕ) (asked : List ℕ) → p * g.page ≤ at → at + length asked ≤ p * g.page + g.page → HalfProgrammed at asked a b →
      ((i : ℕ) → i < length asked → at + i ≡ p * g.page + 4 → bit_at (slice_index asked i) 1 ≡ 1) → (q : ℕ) → live_at g b q ≡ live_at g a q
  live-placing_page at asked low high h keeps =
      live-page_changed g geo a b p entry_page (wider at (length asked) (p * g.page) g.page a b low high h.outside)
      (finished_from_flag _ final) (finished_from_flag _ (final-kept at asked h keeps))

  pub live-placing_entry : (asked : List ℕ) → length asked ≡ 2 → HalfProgrammed (block_of g p * g.block + 2 * (place_of g p - lookups g)) asked a b → (q : ℕ) → live_at g b q ≡ live_at g a q
  live-placing_entry asked two h = live-entry_changed g geo a b p entry_page (rw two at h.outside) (finished_from_flag _ final)

-- Placing an entry keeps the table.
pub placing_entry-keeps : (g : Geometry) → PlacingEntryKeeps g
placing_entry-keeps g a b p asked image unfinished two h =
    let geo : Sizes g = (sizes g) in
    let live = live-placing_entry g geo a b p unfinished.entry_page unfinished.final asked two h in (
      table_of-same g b a live,
      damaged_of-same g b a live,
      record { entry_page = unfinished.entry_page; final = rw (page-same_entry g geo a b p unfinished.entry_page (rw two at h.outside) p unfinished.entry_page) unfinished.final },
    )

pub placing_page-keeps : (g : Geometry) → PlacingPageKeeps g
placing_page-keeps g a b p at asked image unfinished low high keeps h =
    let geo : Sizes g = (sizes g) in
    let live = live-placing_page g geo a b p unfinished.entry_page unfinished.final at asked low high h keeps in (
      table_of-same g b a live,
      damaged_of-same g b a live,
      record { entry_page = unfinished.entry_page; final = final-kept g geo a b p unfinished.entry_page unfinished.final at asked h keeps },
    )
