-- What the calls of a format leave of the bytes behind the volume.
use Rattle.std.proofs.Common.{◌≡◌, ℕ, ◌+◌, ◌*◌, ◌/◌, ◌<◌, ◌≤◌, List, length, ap, arith}
use Rattle.std.specs.Prelude.{Option, Result, OnOk, OnErr}
use Rattle.std.proofs.Math.Nat.{mul-le-mul_right}
use Rattle.geometry.specs.declared.geometry.Geometry.{Geometry}
use Rattle.nor_core.specs.declared.device.Failed.{Failed}
use Rattle.nor_core.specs.declared.device.Mark.{Mark}
use Rattle.nor_core.specs.declared.state.NorState.{Ghosts as NorOf}
use Rattle.nor_core.specs.Flash.{SameOutside, HalfProgrammed, HalfErased, erased}
use Rattle.nor_core.specs.Device.{Changes, InErase}
use Rattle.nor_core.proofs.Cuts.{both}
use Rattle.flash_view.proofs.Behind.{outside_on, inside_program, inside_erase}
use Rattle.page_put.proofs.Erasures.{unit_fits}

module _ {D : Type 0} {nor : NorOf D} (end : ℕ) where
  -- one call after others
  pub inside_then : {old mid new : D} → Changes nor old mid (SameOutside 0 end) → Changes nor mid new (SameOutside 0 end) → Changes nor old new (SameOutside 0 end)
  inside_then first second = both (outside_on 0 end) first second

-- the erase of unit i of a block
pub inside_unit : {D : Type 0} {nor : NorOf D} {old new : D} (g : Geometry) (block i n : ℕ) (mark : Option Mark) (result : Result (Unit {0}) Failed) → block < g.blocks → i < g.block / g.phys → n ≡ block * (g.block / g.phys) + i → nor.unit old ≡ g.phys →
    (nor.tells old → g.blocks * g.block ≤ length (nor.bytes old)) → (nor.tells old → OnOk result (nor.bytes new ≡ erased (nor.bytes old) (n * nor.unit old) (nor.unit old))) → (nor.tells old → OnErr result (HalfErased (n * nor.unit old) (nor.unit old) mark (nor.bytes old) (nor.bytes new))) →
    Changes nor old new (InErase nor old new n mark) → Changes nor old new (SameOutside 0 (g.blocks * g.block))
inside_unit {nor = nor} {old} g block i n mark result low small is unit whole done half changes =
    let fits = unit_fits g block i n low small is in
    let scaled : n * nor.unit old ≡ n * g.phys = ap (λ (u : ℕ). n * u) unit in
    inside_erase (g.blocks * g.block) n mark result (omega (arith, fits, scaled, unit)) whole done half changes

-- a program of two bytes of a block
pub inside_slot : {D : Type 0} {nor : NorOf D} {old new : D} (g : Geometry) (block size offset at : ℕ) (asked : List ℕ) → block < g.blocks → size ≡ g.block → at ≡ block * size + offset → offset + length asked ≤ g.block → Changes nor old new (HalfProgrammed at asked) →
    Changes nor old new (SameOutside 0 (g.blocks * g.block))
inside_slot g block size offset at asked low size_is at_is fits changes =
    let next : (block + 1) * g.block ≤ g.blocks * g.block = mul-le-mul_right g.block (omega arith) in
    let start : block * size ≡ block * g.block = ap (λ (n : ℕ). block * n) size_is in
    inside_program (g.blocks * g.block) at asked (omega (arith, next, fits, start, at_is)) changes
