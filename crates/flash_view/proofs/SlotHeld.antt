-- Entries in the lookup pages that have them.
use Rattle.std.proofs.Common.{ℕ, ◌≡◌, ◌+◌, ◌-◌, ◌*◌, ◌/◌, ◌%◌, ◌<◌, ◌≤◌, List, ap, subst, sym, refl, ◌∙◌, arith}
use Rattle.std.specs.Prelude.{slice_index}
use Rattle.std.proofs.Math.Nat.{mul-le-mul_right, mul_assoc, div-lt_iff_lt-mul, mod-lt}
use Rattle.std.proofs.lemmas.Nat.{div-add-mod'}
use Rattle.geometry.proofs.Bounds.{some_entries, block_pages}
use Rattle.geometry.specs.declared.geometry.Geometry.{Geometry}
use Rattle.geometry.specs.Numbers.{per_block, lookups, entries, page_count, slots}
use Rattle.nor_core.specs.Flash.{word_at}
use Rattle.image_model.specs.Places.{page_of, slot_of}
use Rattle.flash_view.proofs.InPage.{even_page}
use Rattle.flash_view.specs.Places.{IsWordAt}
use Rattle.flash_view.proofs.Within.{word_of_page, word_held}

-- a block has lookup pages, and entry pages
pub some_pages : (g : Geometry) → (1 ≤ lookups g) × (lookups g + entries g ≡ per_block g) × (1 ≤ entries g)
unfolding lookups entries
some_pages g = (omega arith, omega (arith, some_entries g), omega (arith, some_entries g))

-- slots of two bytes in a page, of which a block's lookup pages have enough
module _ (g : Geometry) where
  whole_page : g.page ≡ 2 * (g.page / 2)
  whole_page = omega (arith, even_page g)

  pub lookup_below : (i : ℕ) → i < slots g → 2 * i / g.page < lookups g
  lookup_below i below = (div-lt_iff_lt-mul (omega (arith, g.valid.page_least))).1 (omega (arith, below))

  pub lookup_page_below : (block k : ℕ) → block < g.blocks → k < lookups g → block * per_block g + k < page_count g
  unfolding page_count
  lookup_page_below block k below few =
      let next : block + 1 ≤ g.blocks = omega arith in
      omega (arith, few, some_entries g, mul-le-mul_right (per_block g) next)

  -- where a lookup page has s slots, those of page k begin at k * s
  pub record InLookup (s k at : ℕ) : Type 0 where
    pub low : k * s ≤ at
    pub high : at < k * s + s

  pub in_lookup : (s k at : ℕ) → s ≡ g.page / 2 → k ≡ 2 * at / g.page → InLookup s k at
  in_lookup s k at half is =
      let page : g.page ≡ 2 * s = omega (arith, whole_page, half) in
      let whole : 2 * at / g.page * g.page + 2 * at % g.page ≡ 2 * at = div-add-mod' (2 * at) g.page in
      let low : 2 * at % g.page < g.page = mod-lt (2 * at) (omega (arith, g.valid.page_least)) in
      let twice : k * g.page ≡ k * (2 * s) = ap (λ (n : ℕ). k * n) page in
      let same : 2 * at / g.page * g.page ≡ k * g.page = ap (λ (n : ℕ). n * g.page) (sym is) in
      record {
        low = omega (arith, whole, twice, same);
        high = omega (arith, whole, low, twice, same, page);
      }

  -- where a slot stands in its lookup page
  pub record InPlace (block k i : ℕ) : Type 0 where
    pub low : k * g.page ≤ 2 * i
    pub fits : 2 * i - k * g.page + 2 ≤ g.page
    pub at : (block * per_block g + k) * g.page + (2 * i - k * g.page) ≡ block * g.block + 2 * i

  pub in_place : (block k i : ℕ) → k ≡ 2 * i / g.page → InPlace block k i
  in_place block k i is =
      let w = in_lookup (g.page / 2) k i refl is in
      let twice : k * g.page ≡ k * (2 * (g.page / 2)) = ap (λ (n : ℕ). k * n) whole_page in
      let blocks : block * per_block g * g.page ≡ block * g.block = mul_assoc block (per_block g) g.page ∙ ap (λ (n : ℕ). block * n) (block_pages g) in
      record {
        low = omega (arith, w.low, twice);
        fits = omega (arith, w.high, twice, whole_page);
        at = omega (arith, w.low, twice, blocks);
      }

  pub slot_read : (image bytes : List ℕ) (block k i : ℕ) → k ≡ 2 * i / g.page → bytes ≡ page_of g image (block * per_block g + k) → word_at bytes (2 * i - k * g.page) ≡ slot_of g image block i
  unfolding slot_of
  slot_read image bytes block k i is held =
      let w = in_place block k i is in
      ap (λ (l : List ℕ). word_at l (2 * i - k * g.page)) held ∙ sym (word_of_page g image (block * per_block g + k) (2 * i - k * g.page) w.fits) ∙ ap (word_at image) w.at

  pub slot_small : (image bytes : List ℕ) (block k i : ℕ) → k ≡ 2 * i / g.page → bytes ≡ page_of g image (block * per_block g + k) → ((j : ℕ) → slice_index bytes j < 256) → IsWordAt image (block * g.block + 2 * i)
  slot_small image bytes block k i is held small =
      let w = in_place block k i is in
      subst (IsWordAt image) w.at (word_held g image bytes (block * per_block g + k) (2 * i - k * g.page) held small w.fits)

  -- a slot of a lookup page is that of the block
  pub slot_held : (image : List ℕ) (s block k i : ℕ) → s ≡ g.page / 2 → i < s → word_at (page_of g image (block * per_block g + k)) (2 * i) ≡ slot_of g image block (k * s + i)
  unfolding slot_of
  slot_held image s block k i half below =
      let page : g.page ≡ 2 * s = omega (arith, whole_page, half) in
      let twice : k * g.page ≡ k * (2 * s) = ap (λ (n : ℕ). k * n) page in
      let blocks : block * per_block g * g.page ≡ block * g.block = mul_assoc block (per_block g) g.page ∙ ap (λ (n : ℕ). block * n) (block_pages g) in
      let place : (block * per_block g + k) * g.page + 2 * i ≡ block * g.block + 2 * (k * s + i) = omega (arith, twice, blocks) in
      sym (word_of_page g image (block * per_block g + k) (2 * i) (omega (arith, page, below))) ∙ ap (word_at image) place

-- a number of two bytes
pub word_small : (bytes : List ℕ) (at : ℕ) → ((k : ℕ) → slice_index bytes k < 256) → word_at bytes at < 0x10000
word_small bytes at small = omega (arith, small at, small (at + 1))
