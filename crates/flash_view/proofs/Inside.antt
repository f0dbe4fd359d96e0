-- Pages, entries and slots stand inside the volume, and their places fit 32 bits.
use Rattle.std.proofs.Common.{ℕ, ◌≡◌, ◌+◌, ◌-◌, ◌*◌, ◌%◌, ◌<◌, ◌≤◌, arith}
use Rattle.std.proofs.Math.Nat.{mul-le-mul_right, mod-lt}
use Rattle.std.proofs.lemmas.Nat.{mod-mul-add}
use Rattle.geometry.proofs.Bounds.{some_pages, some_entries, magic_fits, block_pages, block_inside, block_below}
use Rattle.geometry.specs.declared.geometry.Geometry.{Geometry}
use Rattle.geometry.specs.Numbers.{per_block, lookups, entries, page_count, slots}
use Rattle.flash_view.specs.Places.{IsEntryPage}
use Rattle.image_model.specs.Places.{block_of, place_of, entry_at}

-- the lookup pages lie in the block
pub lookups_inside : (g : Geometry) → lookups g * g.page ≤ g.block
lookups_inside g =
    let few : lookups g ≤ per_block g = omega (arith, some_entries g) in
    omega (arith, mul-le-mul_right g.page few, block_pages g)

pub entry_slot : (g : Geometry) (p : ℕ) → IsEntryPage g p → p % per_block g - lookups g < slots g
unfolding entries
entry_slot g p entry =
    let some : 0 < per_block g = omega (arith, some_pages g) in
    let place : place_of g p < per_block g = mod-lt p some in
    omega (arith, magic_fits g, entry.behind, place)

pub entry_inside : (g : Geometry) (p : ℕ) → IsEntryPage g p → entry_at g p + 2 ≤ g.blocks * g.block
unfolding entries
entry_inside g p entry =
    let some : 0 < per_block g = omega (arith, some_pages g) in
    let place : place_of g p < per_block g = mod-lt p some in
    let slot : place_of g p - lookups g + 3 ≤ slots g = omega (arith, magic_fits g, entry.behind, place) in
    omega (arith, slot, lookups_inside g, block_inside g (block_of g p) (block_below g p entry.below))

-- the page of an entry is an entry page of the block
pub entry_page_is : (g : Geometry) (b i p : ℕ) → b < g.blocks → i < entries g → p ≡ b * per_block g + lookups g + i → IsEntryPage g p
unfolding entries page_count
entry_page_is g b i p block entry is =
    let next : b + 1 ≤ g.blocks = omega arith in
    let place : lookups g + i < per_block g = omega (arith, entry, some_entries g) in
    let sum : p ≡ b * per_block g + (lookups g + i) = omega (arith, is) in
    let at : p % per_block g ≡ lookups g + i = rw sum (mod-mul-add b (per_block g) (lookups g + i) place) in
    record {
      below = omega (arith, is, place, mul-le-mul_right (per_block g) next);
      behind = omega (arith, at);
    }
