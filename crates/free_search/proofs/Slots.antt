-- Free entries by their numbers, and free blocks.
use Rattle.std.proofs.Common.{◌≡◌, ℕ, zero, suc, ◌+◌, ◌-◌, ◌*◌, ◌<◌, ◌≤◌, List, Bool, true, false, ◌==◌, nat_le, not, refl, sym, ◌∙◌, ap, subst, arith}
use Rattle.std.specs.Prelude.{Option, Some, None, IfSome, is_some}
use Rattle.std.specs.List.{range_with_len, list_all}
use Rattle.std.proofs.lemmas.Bool.{and_parts, le-leb, leb-true, leb-false, ne_eqb, false_from_ne_true}
use Rattle.geometry.specs.declared.geometry.Geometry.{Geometry}
use Rattle.geometry.specs.Numbers.{per_block, lookups, entries}
use Rattle.page_layout.specs.Layout.{is_between}
use Rattle.image_model.specs.Places.{slot_of, entry_of, has_magic, is_entry_page}
use Rattle.image_model.specs.Tidy.{is_free_entry, is_free_block, TellsFree}
use Rattle.image_model.specs.Within.{entry_in}
use Rattle.image_laws.proofs.FreeBlocks.{all-at}
use Rattle.image_laws.proofs.Reindexed.{find_none-in}
use Rattle.flash_view.specs.Walk.{IsPassedSlot, IsNextSlot, NextSlot}
use Rattle.flash_view.proofs.Passed.{find_first}
use Rattle.flash_view.proofs.Walking.{entry_is}
use Rattle.free_search.specs.Free.{the_first_free}

-- a number that a search for used entries stopped at, and one that it passed over
used_number : (n : ℕ) → is_between 0 0xFFFE n ≡ true → n ≤ 0xFFFE
used_number n between = leb-true n 0xFFFE (and_parts (nat_le 0 n) (nat_le n 0xFFFE) between).1

free_number : (n : ℕ) → n < 0x10000 → is_between 0 0xFFFE n ≡ false → n ≡ 0xFFFF
free_number n small passed =
    let more : 0xFFFE < n = leb-false n 0xFFFE (rw (le-leb 0 n (omega arith)) at passed) in
    omega (arith, more, small)

-- an entry that was passed over is 0xFFFF
pub passed_free : (g : Geometry) (image : List ℕ) (block i : ℕ) → i < entries g → IsPassedSlot g image block 0 0xFFFE i → entry_of g image (block * per_block g + lookups g + i) ≡ 0xFFFF
passed_free g image block i below passed = entry_is g image block i below ∙ free_number (slot_of g image block i) passed.word passed.none

-- an entry that was found has its number, and isn't 0xFFFF
pub found_number : (g : Geometry) (image : List ℕ) (block from low high i n p : ℕ) → i < entries g → IsNextSlot g image block from low high i n → p ≡ block * per_block g + lookups g + i → n ≡ entry_of g image p
found_number g image block from low high i n p few found place = found.number ∙ sym (entry_is g image block i few) ∙ sym (ap (entry_of g image) place)

pub used_entry : (g : Geometry) (image : List ℕ) (block from i n p : ℕ) → i < entries g → IsNextSlot g image block from 0 0xFFFE i n → p ≡ block * per_block g + lookups g + i → (entry_of g image p == 0xFFFF) ≡ false
used_entry g image block from i n p few found place =
    let number = found_number g image block from 0 0xFFFE i n p few found place in
    let small = used_number n found.between in
    ne_eqb (entry_of g image p) 0xFFFF (λ ones. absurd (omega (arith, number, ones, small)))

-- what holds of the entries before one holds of their pages
by_place : (P : ℕ → Type 0) (first most : ℕ) → ((k : ℕ) → k < most → P (first + k)) → (q : ℕ) → first ≤ q → q < first + most → P q
by_place P first most all q low high = let at : first + (q - first) ≡ q = omega arith in subst P at (all (q - first) (omega arith))

all_of : (t : ℕ → Bool) (a n : ℕ) → ((q : ℕ) → a ≤ q → q < a + n → t q ≡ true) → list_all t (range_with_len a n) ≡ true
all_of t a zero all = refl
all_of t a (suc n) all = rw (all a (omega arith) (omega arith)) (all_of t (a + 1) n (λ q low high. all q (omega arith) (omega arith)))

-- ---- whether a block is free

-- a block with its magic is free where no entry was found
free_as : (g : Geometry) (image : List ℕ) (block : ℕ) → TellsFree g image → block < g.blocks → has_magic g image block ≡ true → (found : Option (ℕ × ℕ)) → NextSlot g image block 0 0 0xFFFE found →
    IfSome found (λ f. (0 ≤ f.0) × (f.0 < entries g)) → not (is_some found) ≡ is_free_block g image block
unfolding is_free_block
free_as g image block tells below magic None none inside =
    let ones = by_place (λ (q : ℕ). entry_of g image q ≡ 0xFFFF) (block * per_block g + lookups g) (entries g) (λ k few. passed_free g image block k few (none k (omega arith) few)) in
    sym (rw magic (all_of (λ p. is_free_entry g image p) (block * per_block g + lookups g) (entries g) (λ q low high. tells.free q (entry_in g block q below low high).1 (ones q low high))))
free_as g image block tells below magic (Some (i, n)) found inside = sym (false_from_ne_true (is_free_block g image block) (λ free.
    let all = (and_parts (has_magic g image block) _ free).1 in
    let first = block * per_block g + lookups g in
    let one = all-at (λ p. is_free_entry g image p) first (entries g) all (first + i) (omega arith) (omega (arith, inside.1)) in
    let ones = (and_parts (entry_of g image (first + i) == 0xFFFF) _ one).0 in
    let used = used_entry g image block 0 i n (first + i) inside.1 found refl in
    absurd (cc)))

turned : (some none : Bool) → some ≡ not none → none ≡ not some
turned some true is = rw is refl
turned some false is = rw is refl

pub free_by : (g : Geometry) (image : List ℕ) (block : ℕ) → TellsFree g image → block < g.blocks → has_magic g image block ≡ true → (found : Option (ℕ × ℕ)) (none : Bool) → NextSlot g image block 0 0 0xFFFE found →
    IfSome found (λ f. (0 ≤ f.0) × (f.0 < entries g)) → is_some found ≡ not none → none ≡ is_free_block g image block
free_by g image block tells below magic found none next inside is = turned (is_some found) none is ∙ free_as g image block tells below magic found next inside

-- ---- the first free entry of a block

-- a search for free entries passed it over
passed_used : (g : Geometry) (image : List ℕ) (block i : ℕ) → i < entries g → IsPassedSlot g image block 0xFFFF 0xFFFF i → is_free_entry g image (block * per_block g + lookups g + i) ≡ false
passed_used g image block i few passed =
    let used : (entry_of g image (block * per_block g + lookups g + i) == 0xFFFF) ≡ false = ne_eqb _ 0xFFFF (λ ones.
    let number : slot_of g image block i ≡ 0xFFFF = sym (entry_is g image block i few) ∙ ones in
    let no : true ≡ false = rw number at passed.none in absurd (cc)) in
    rw used refl

pub none_unused : (g : Geometry) (image : List ℕ) (block most : ℕ) → most ≤ entries g → ((k : ℕ) → 0 ≤ k → k < most → IsPassedSlot g image block 0xFFFF 0xFFFF k) →
    (q : ℕ) → block * per_block g + lookups g ≤ q → q < block * per_block g + lookups g + most → is_free_entry g image q ≡ false
none_unused g image block most few passed = by_place (λ (q : ℕ). is_free_entry g image q ≡ false) (block * per_block g + lookups g) most (λ k before. passed_used g image block k (omega (arith, before, few)) (passed k (omega arith) before))

pub first_none : (g : Geometry) (image : List ℕ) (block : ℕ) → NextSlot g image block 0 0xFFFF 0xFFFF None → None ≡ the_first_free g image block
unfolding the_first_free
first_none g image block none = sym (find_none-in (λ p. is_free_entry g image p) (block * per_block g + lookups g) (entries g) (none_unused g image block (entries g) (omega arith) none))

pub first_some : (g : Geometry) (image : List ℕ) (block i n p : ℕ) → TellsFree g image → is_entry_page g p ≡ true → i < entries g → IsNextSlot g image block 0 0xFFFF 0xFFFF i n → p ≡ block * per_block g + lookups g + i → Some p ≡ the_first_free g image block
unfolding the_first_free
first_some g image block i n p tells page few found place =
    let parts = and_parts (nat_le 0xFFFF n) (nat_le n 0xFFFF) found.between in
    let number = found_number g image block 0 0xFFFF 0xFFFF i n p few found place in
    let ones : entry_of g image p ≡ 0xFFFF = omega (arith, number, leb-true 0xFFFF n parts.0, leb-true n 0xFFFF parts.1) in
    sym (find_first (λ q. is_free_entry g image q) (block * per_block g + lookups g) (entries g) p (omega (arith, place)) (omega (arith, place, few)) (tells.free p page ones)
    (λ q low high. none_unused g image block i (omega (arith, few)) found.passed q low (omega (arith, high, place))))
