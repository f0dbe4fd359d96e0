-- Bytes of a page that were read alone.
use Rattle.std.proofs.Common.{ℕ, ◌≡◌, ◌+◌, ◌-◌, ◌*◌, ◌<◌, ◌≤◌, ◌/◌, List, length, min, false, true, slice_index, slice_range, get_or, sym, ap, subst, arith, refl, ◌∙◌}
use Rattle.std.specs.Prelude.{None}
use Rattle.std.proofs.lemmas.List.{same_lists}
use Rattle.std.proofs.lemmas.Grind.{get_or_default_zero}
use Rattle.geometry.specs.declared.geometry.Geometry.{Geometry}
use Rattle.geometry.specs.Numbers.{page_count, per_block}
use Rattle.geometry.proofs.Bounds.{page_inside}
use Rattle.nor_core.specs.Flash.{word_at}
use Rattle.image_model.specs.Places.{page_of, slot_of}
use Rattle.image_model.specs.Headers.{name_of}
use Rattle.page_layout.specs.Layout.{header_at, is_between}
use Rattle.page_cache.proofs.Places.{range_length, range_byte}
use Rattle.flash_view.specs.Places.{IsWordAt}
use Rattle.flash_view.specs.Walk.{FirstSlot, IsNextSlot, IsPassedSlot}
use Rattle.flash_view.proofs.SlotHeld.{slot_held, word_small}
use Rattle.flash_view.proofs.Parts.{part_byte}
use Rattle.flash_view.proofs.Within.{word_of_page}

-- a part of a part
pub part_of_part : (xs : List ℕ) (a b start end : ℕ) → start ≤ end → a + end ≤ b → b ≤ length xs → slice_range (slice_range xs a b) start end ≡ slice_range xs (a + start) (a + end)
part_of_part xs a b start end order inside long =
    let outer = range_length xs a b (omega (arith, inside), long) in
    let left = range_length (slice_range xs a b) start end (order, omega (arith, outer, inside)) in
    let right = range_length xs (a + start) (a + end) (omega (arith, order), omega (arith, inside, long)) in
    same_lists _ _ (omega (arith, left, right))
    (λ k d below.
    let here : start + k < end = omega (arith, below, left) in
    let there : k < length (slice_range xs (a + start) (a + end)) = omega (arith, below, left, right) in
    let place : a + (start + k) ≡ a + start + k = omega arith in
    get_or_default_zero (slice_range (slice_range xs a b) start end) k d below ∙ range_byte (slice_range xs a b) start end k here ∙ range_byte xs a b (start + k) (omega (arith, here, inside))
    ∙ ap (λ (m : ℕ). get_or xs m 0) place ∙ sym (range_byte xs (a + start) (a + end) k (omega (arith, here))) ∙ sym (get_or_default_zero (slice_range xs (a + start) (a + end)) k d there))

-- a word of a part
pub word_of_part : (xs : List ℕ) (start : ℕ) → word_at (slice_range xs start (start + 2)) 0 ≡ word_at xs start
word_of_part xs start =
    let low : slice_index (slice_range xs start (start + 2)) 0 ≡ slice_index xs (start + 0) = part_byte start (start + 2) 0 xs (omega arith) in
    let high : slice_index (slice_range xs start (start + 2)) 1 ≡ slice_index xs (start + 1) = part_byte start (start + 2) 1 xs (omega arith) in
    let zero : start + 0 ≡ start = omega arith in
    rw (low, high, zero) refl

-- the header of the first bytes of a page
pub header_of_part : (xs : List ℕ) (end : ℕ) → 5 ≤ end → header_at (slice_range xs 0 end) ≡ header_at xs
header_of_part xs end long =
    let b0 : slice_index (slice_range xs 0 end) 0 ≡ slice_index xs 0 = part_byte 0 end 0 xs (omega (arith, long)) in
    let b1 : slice_index (slice_range xs 0 end) 1 ≡ slice_index xs 1 = part_byte 0 end 1 xs (omega (arith, long)) in
    let b2 : slice_index (slice_range xs 0 end) 2 ≡ slice_index xs 2 = part_byte 0 end 2 xs (omega (arith, long)) in
    let b3 : slice_index (slice_range xs 0 end) 3 ≡ slice_index xs 3 = part_byte 0 end 3 xs (omega (arith, long)) in
    let b4 : slice_index (slice_range xs 0 end) 4 ≡ slice_index xs 4 = part_byte 0 end 4 xs (omega (arith, long)) in
    rw (b0, b1, b2, b3, b4) refl

-- the name in the first bytes of a header page
pub name_of_part : (xs : List ℕ) → 45 ≤ length xs → name_of (slice_range xs 0 45) ≡ name_of xs
name_of_part xs long =
    let field : slice_range (slice_range xs 0 45) 13 45 ≡ slice_range xs 13 45 = part_of_part xs 0 45 13 45 (omega arith) (omega arith) long in
    rw field refl

-- the bytes of a word that was read from a page are small where what was read is
pub word_parted : (g : Geometry) (image bytes : List ℕ) (page start : ℕ) → bytes ≡ slice_range (page_of g image page) start (start + 2) → ((k : ℕ) → slice_index bytes k < 256) → start + 2 ≤ g.page → IsWordAt image (page * g.page + start)
unfolding page_of
word_parted g image bytes page start is small fits =
    let byte : (i : ℕ) → i < 2 → slice_index bytes i ≡ slice_index image (page * g.page + (start + i)) = λ i low.
    ap (λ (l : List ℕ). slice_index l i) is ∙ part_byte start (start + 2) i (slice_range image (page * g.page) (page * g.page + g.page)) (omega (arith, low)) ∙ part_byte (page * g.page) (page * g.page + g.page) (start + i) image (omega (arith, low, fits)) in
    let here : page * g.page + (start + 0) ≡ page * g.page + start = omega arith in
    let next : page * g.page + (start + 1) ≡ page * g.page + start + 1 = omega arith in
    record {
      low = rw (byte 0 (omega arith), here) at (small 0);
      high = rw (byte 1 (omega arith), next) at (small 1);
    }

-- how long a page is
pub page_long : (g : Geometry) (image : List ℕ) (page : ℕ) → page < page_count g → g.blocks * g.block ≤ length image → length (page_of g image page) ≡ g.page
unfolding page_of
page_long g image page below fits =
    let inside = page_inside g page below in
    omega (arith, range_length image (page * g.page) (page * g.page + g.page) (omega arith, omega (arith, inside, fits)))

-- slots that were read alone
module _ (g : Geometry) (image : List ℕ) (low high : ℕ) where
  -- a slot of a part of a lookup page that begins with slot `at` of the block is that of the block
  pub slot_of_part : (block k at count j : ℕ) (bytes : List ℕ) → k * (g.page / 2) ≤ at → at + count ≤ k * (g.page / 2) + g.page / 2 →
      bytes ≡ slice_range (page_of g image (block * per_block g + k)) (2 * (at - k * (g.page / 2))) (2 * (at - k * (g.page / 2)) + 2 * count) → j < count → word_at bytes (2 * j) ≡ slot_of g image block (at + j)
  slot_of_part block k at count j bytes begin fits is below =
      let s = g.page / 2 in
      let page = page_of g image (block * per_block g + k) in
      let start = 2 * (at - k * s) in
      let low_byte : slice_index bytes (2 * j) ≡ slice_index page (start + 2 * j) = ap (λ (l : List ℕ). slice_index l (2 * j)) is ∙ part_byte start (start + 2 * count) (2 * j) page (omega (arith, below)) in
      let high_byte : slice_index bytes (2 * j + 1) ≡ slice_index page (start + (2 * j + 1)) = ap (λ (l : List ℕ). slice_index l (2 * j + 1)) is ∙ part_byte start (start + 2 * count) (2 * j + 1) page (omega (arith, below)) in
      let next : start + (2 * j + 1) ≡ start + 2 * j + 1 = omega arith in
      let word : word_at bytes (2 * j) ≡ word_at page (start + 2 * j) = rw (low_byte, high_byte, next) refl in
      let place : start + 2 * j ≡ 2 * (at - k * s + j) = omega arith in
      let number : k * s + (at - k * s + j) ≡ at + j = omega (arith, begin) in
      word ∙ ap (word_at page) place ∙ slot_held g image s block k (at - k * s + j) refl (omega (arith, begin, fits, below)) ∙ ap (slot_of g image block) number

  module _ (block k at count : ℕ) (bytes : List ℕ) (begin : k * (g.page / 2) ≤ at) (fits : at + count ≤ k * (g.page / 2) + g.page / 2)
      (is : bytes ≡ slice_range (page_of g image (block * per_block g + k)) (2 * (at - k * (g.page / 2))) (2 * (at - k * (g.page / 2)) + 2 * count)) (small : (j : ℕ) → slice_index bytes j < 256) where
    passed_part : (to : ℕ) → to ≤ count → ((j : ℕ) → 0 ≤ j → j < to → is_between low high (word_at bytes (2 * j)) ≡ false) → (i : ℕ) → at ≤ i → i < at + to → IsPassedSlot g image block low high i
    passed_part to few none i after before =
        let here : at + (i - at) ≡ i = omega arith in
        let number : word_at bytes (2 * (i - at)) ≡ slot_of g image block i = slot_of_part block k at count (i - at) bytes begin fits is (omega (arith, few, before, after)) ∙ ap (slot_of g image block) here in
        record {
          word = subst (λ (n : ℕ). n < 0x10000) number (word_small bytes (2 * (i - at)) small);
          none = subst (λ (n : ℕ). is_between low high n ≡ false) number (none (i - at) (omega arith) (omega (arith, before, after)));
        }

    pub found_part : (i n : ℕ) → (0 ≤ i) × (i < count) × (n ≡ word_at bytes (2 * i)) × (is_between low high n ≡ true) → ((j : ℕ) → 0 ≤ j → j < i → is_between low high (word_at bytes (2 * j)) ≡ false) → IsNextSlot g image block at low high (at + i) n
    found_part i n here none = record {
      word = subst (λ (x : ℕ). x < 0x10000) (sym here.2) (word_small bytes (2 * i) small);
      number = here.2 ∙ slot_of_part block k at count i bytes begin fits is here.1;
      between = here.3;
      passed = λ j after before. passed_part i (omega (arith, here.1)) none j after before;
    }

    pub none_part : (most : ℕ) → at + count ≡ min most (k * (g.page / 2) + g.page / 2) → ((j : ℕ) → 0 ≤ j → j < count → is_between low high (word_at bytes (2 * j)) ≡ false) → FirstSlot g image block at (min most ((k + 1) * (g.page / 2))) low high None
    none_part most end none j after before = passed_part count (omega arith) none j after (omega (arith, before, end))
