-- Programs of a page and its entry leave all erase counts.
use Rattle.std.proofs.Common.{◌≡◌, ℕ, ◌+◌, ◌-◌, ◌*◌, ◌<◌, ◌≤◌, ◌⊎◌, List, true, ap, refl, arith, ⊎_elim, slice_index, add_assoc, add-zero}
use Rattle.std.proofs.Math.Nat.{mul-le-mul_right}
use Rattle.std.proofs.lemmas.Bool.{cases_eq, cases_lt}
use Rattle.geometry.specs.declared.geometry.Geometry.{Geometry}
use Rattle.geometry.specs.Numbers.{per_block, lookups, entries, slots}
use Rattle.nor_core.specs.Flash.{SameOutside}
use Rattle.image_model.specs.Places.{erase_count, entry_at, slot_of, block_of, place_of, is_entry_page}
use Rattle.image_model.specs.Within.{sizes, behind}
use Rattle.image_laws.proofs.Places.{lookups_apart, blocks_disjoint}
use Rattle.image_laws.proofs.Frames.{word_at-same}

module _ (g : Geometry) (a b : List ℕ) (p block : ℕ) (page : is_entry_page g p ≡ true) where
  -- the last slot lies in the lookup pages, and not in page p
  last_page : SameOutside (p * g.page) g.page a b → (j : ℕ) → j < 2 → slice_index b (block * g.block + (2 * (slots g - 1) + j)) ≡ slice_index a (block * g.block + (2 * (slots g - 1) + j))
  last_page h j few =
      let fits : lookups g < per_block g = (sizes g).lookups_fit in
      let room : entries g + 2 ≤ slots g = (sizes g).slots_fit in
      let at : block * g.block ≡ block * (per_block g * g.page) = ap (λ (x : ℕ). block * x) (sizes g).block in
      ⊎_elim
      (λ (x : block * (per_block g * g.page) + (2 * (slots g - 1) + j) < p * g.page). h.before (block * g.block + (2 * (slots g - 1) + j)) (omega arith))
      (λ (x : p * g.page + g.page ≤ block * (per_block g * g.page) + (2 * (slots g - 1) + j)). h.after (block * g.block + (2 * (slots g - 1) + j)) (omega arith))
      (lookups_apart (per_block g) (lookups g) g.page block p (2 * (slots g - 1) + j) (omega arith) (omega arith) (behind g p page) (omega arith))

  -- the entry is one of the slots before the last two
  entry_slot_low : place_of g p - lookups g < entries g
  unfolding entries
  entry_slot_low = let fits : lookups g < per_block g = (sizes g).lookups_fit in omega arith

  -- nor is it the entry of p
  last_entry : SameOutside (entry_at g p) 2 a b → (j : ℕ) → j < 2 → slice_index b (block * g.block + (2 * (slots g - 1) + j)) ≡ slice_index a (block * g.block + (2 * (slots g - 1) + j))
  last_entry h j few =
      let fewer : lookups g ≤ per_block g = omega (arith, (sizes g).lookups_fit) in
      let rows : lookups g * g.page ≤ per_block g * g.page = mul-le-mul_right g.page fewer in
      let fits : lookups g * g.page ≤ g.block = omega (arith, (sizes g).block) in
      let slot = entry_slot_low in
      let room : entries g + 2 ≤ slots g = (sizes g).slots_fit in
      ⊎_elim
      (λ (same : block ≡ block_of g p).
      let at : block * g.block ≡ block_of g p * g.block = ap (λ (x : ℕ). x * g.block) same in
      h.after (block * g.block + (2 * (slots g - 1) + j)) (omega arith))
      (λ (differ : block ≡ block_of g p → ⊥).
      ⊎_elim
      (λ (x : block < block_of g p). h.before (block * g.block + (2 * (slots g - 1) + j)) (omega (arith, blocks_disjoint g.block block (block_of g p) (2 * (slots g - 1) + j) 0 x (omega arith))))
      (λ (x : block_of g p ≤ block). h.after (block * g.block + (2 * (slots g - 1) + j))
      (let more : block_of g p < block = omega (arith, differ) in omega (arith, blocks_disjoint g.block (block_of g p) block (2 * (place_of g p - lookups g) + 1) 0 more (omega arith))))
      (cases_lt block (block_of g p)))
      (cases_eq block (block_of g p))

  last_slot : ((j : ℕ) → j < 2 → slice_index b (block * g.block + (2 * (slots g - 1) + j)) ≡ slice_index a (block * g.block + (2 * (slots g - 1) + j))) → slot_of g b block (slots g - 1) ≡ slot_of g a block (slots g - 1)
  unfolding slot_of
  last_slot same =
      word_at-same a b (block * g.block + 2 * (slots g - 1))
      (let first = same 0 (omega arith) in rw add-zero at first)
      (let next = same 1 (omega arith) in rw add_assoc next)

  count_stays : slot_of g b block (slots g - 1) ≡ slot_of g a block (slots g - 1) → erase_count g b block ≡ erase_count g a block
  unfolding erase_count
  count_stays same = rw same refl

-- Programs of a page and its entry leave all erase counts.
pub erases_stay : (g : Geometry) (a b : List ℕ) (p block : ℕ) → is_entry_page g p ≡ true → block < g.blocks → SameOutside (p * g.page) g.page a b ⊎ SameOutside (entry_at g p) 2 a b → erase_count g b block ≡ erase_count g a block
erases_stay g a b p block page low same =
    count_stays g a b p block page (last_slot g a b p block page (⊎_elim (last_page g a b p block page) (last_entry g a b p block page) same))
