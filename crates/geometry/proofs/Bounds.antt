-- The rules that every geometry meets, said of the numbers of a volume.
use Rattle.std.proofs.Common.{ℕ, ◌≡◌, ◌+◌, ◌-◌, ◌*◌, ◌/◌, ◌≤◌, ◌<◌, ap, ◌∙◌, arith}
use Rattle.std.proofs.Math.Nat.{mul-le-mul_right, mul-le-mul_left, mul_assoc, div-lt_iff_lt-mul}
use Rattle.geometry.specs.declared.geometry.Geometry.{Geometry}
use Rattle.geometry.specs.Numbers.{per_block, lookups, entries, page_count, usable, slots}

pub few_pages : (g : Geometry) → page_count g ≤ 65535
unfolding page_count per_block
few_pages g = g.valid.few_pages

pub few_in_block : (g : Geometry) → per_block g ≤ 65535
unfolding per_block
few_in_block g = g.valid.few_in_block

pub some_pages : (g : Geometry) → 2 ≤ per_block g
unfolding per_block
some_pages g = g.valid.some_pages

pub some_entries : (g : Geometry) → lookups g + 1 ≤ per_block g
unfolding per_block lookups
some_entries g = g.valid.some_entries

pub entry_left : (g : Geometry) → 1 ≤ entries g
unfolding entries
entry_left g = omega (arith, some_entries g)

pub lookups_fit : (g : Geometry) → lookups g * g.page ≤ g.phys
unfolding lookups
lookups_fit g = g.valid.lookups_fit

pub magic_fits : (g : Geometry) → entries g + 2 ≤ slots g
unfolding entries per_block lookups
magic_fits g = g.valid.magic_fits

pub few_entries : (g : Geometry) → entries g ≤ per_block g
unfolding entries
few_entries g = omega arith

pub few_usable : (g : Geometry) → usable g ≤ 65535
unfolding page_count
few_usable g = omega (arith, mul-le-mul_left g.blocks (few_entries g), few_pages g)

-- a block is its pages
pub block_pages : (g : Geometry) → per_block g * g.page ≡ g.block
unfolding per_block
block_pages g = grind (arith, g.valid.whole_pages)

-- the volume is below 2 ^ 28 bytes
pub volume_small : (g : Geometry) → g.blocks * g.block ≤ 268431360
volume_small g = omega (arith, g.valid.few_bytes, mul-le-mul_left 65535 g.valid.page_most)

-- a block lies in the volume
pub block_inside : (g : Geometry) (b : ℕ) → b < g.blocks → b * g.block + g.block ≤ g.blocks * g.block
block_inside g b below = let next : b + 1 ≤ g.blocks = omega arith in omega (arith, mul-le-mul_right g.block next)

-- the volume is its pages
pub volume_pages : (g : Geometry) → page_count g * g.page ≡ g.blocks * g.block
unfolding page_count
volume_pages g = mul_assoc g.blocks (per_block g) g.page ∙ ap (λ n. g.blocks * n) (block_pages g)

-- a page lies in the volume
pub page_inside : (g : Geometry) (p : ℕ) → p < page_count g → p * g.page + g.page ≤ g.blocks * g.block
unfolding page_count
page_inside g p below =
    let next : p + 1 ≤ g.blocks * per_block g = omega arith in
    omega (arith, mul-le-mul_right g.page next, volume_pages g)

-- the block of a page
pub block_below : (g : Geometry) (p : ℕ) → p < page_count g → p / per_block g < g.blocks
unfolding page_count
block_below g p below = let some : 0 < per_block g = omega (arith, some_pages g) in (div-lt_iff_lt-mul some).1 below
