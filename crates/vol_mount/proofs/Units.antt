-- The erase units of a block lie on the device.
use Rattle.std.proofs.Common.{ℕ, ◌+◌, ◌*◌, ◌/◌, ◌<◌, ◌≤◌, refl, arith}
use Rattle.std.proofs.Math.Nat.{le-div_iff_mul-le}
use Rattle.geometry.proofs.Bounds.{lookups_fit, magic_fits}
use Rattle.geometry.specs.declared.geometry.Geometry.{Geometry}
use Rattle.page_put.proofs.Erasures.{unit_fits}

pub unit_inside : (g : Geometry) (b i size : ℕ) → b < g.blocks → i < g.block / g.phys → g.blocks * g.block ≤ size → b * (g.block / g.phys) + i < size / g.phys
unit_inside g b i size block unit fits =
    let some : 0 < g.phys = omega (arith, lookups_fit g, magic_fits g) in
    let all : (b * (g.block / g.phys) + i + 1) * g.phys ≤ size = omega (arith, unit_fits g b i (b * (g.block / g.phys) + i) block unit refl, fits) in
    omega (arith, (le-div_iff_mul-le some).1 all)
