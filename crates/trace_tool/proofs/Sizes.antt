-- The bytes of a volume.
use Rattle.std.proofs.Common.{◌≡◌, ℕ, ◌+◌, ◌*◌, ◌%◌, ◌/◌, ◌<◌, ◌≤◌, sym, ◌∙◌, ap, arith, ⊎_elim}
use Rattle.std.proofs.Math.Nat.{le-div_iff_mul-le, zero-mod, mod-zero, eq-zero-or-pos}
use Rattle.std.proofs.lemmas.Nat.{mul-mod_second}
use Rattle.geometry.specs.declared.geometry.Geometry.{Geometry}
use Rattle.geometry.proofs.Bounds.{block_inside}

some_block : (g : Geometry) → 0 < g.block
some_block g =
    let page : 0 < g.page = omega (arith, g.valid.page_least) in
    let two : 2 * g.page ≤ g.block = (le-div_iff_mul-le {k = g.page} {x = 2} {y = g.block} page).0 g.valid.some_pages in
    omega (arith, two, page)

-- there is one
pub some_bytes : (g : Geometry) → 0 < g.blocks * g.block
some_bytes g =
    let first : 0 * g.block + g.block ≤ g.blocks * g.block = block_inside g 0 (omega (arith, g.valid.some_blocks)) in
    omega (arith, first, some_block g)

-- an erase unit has one
pub some_unit : (g : Geometry) → 0 < g.phys
some_unit g = ⊎_elim
    (λ (none : g.phys ≡ 0).
    let all : g.block % g.phys ≡ g.block = ap (λ (k : ℕ). g.block % k) none ∙ mod-zero g.block in
    absurd (omega (arith, some_block g, sym all ∙ g.valid.whole_units)))
    (λ (some : 0 < g.phys). some)
    (eq-zero-or-pos g.phys)

-- they are whole erase units
pub whole_units : (g : Geometry) → (g.blocks * g.block) % g.phys ≡ 0
whole_units g =
    let none : g.blocks * 0 ≡ 0 = omega arith in
    sym (mul-mod_second g.blocks g.block g.phys) ∙ ap (λ (k : ℕ). (g.blocks * k) % g.phys) g.valid.whole_units ∙ ap (λ (k : ℕ). k % g.phys) none ∙ zero-mod g.phys
