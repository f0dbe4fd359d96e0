-- The units below `i` are erased, by one erase each, and all other blocks are as they were.
use Rattle.std.proofs.Common.{◌≡◌, ◌+◌, ◌*◌, ◌/◌, ◌≤◌}
use Rattle.nor_core.specs.Flash.{SameOutside}
use Rattle.nor_core.specs.Device.{Changes}
use Rattle.page_put.specs.Fresh.{ErasedTo}
use Rattle.vol_mount.proofs.formatting.erase_block.Given as goal

abbrev pub invariant-loop-i : goal.invariant-loop-i
invariant-loop-i g l = record {
  changes : Changes g.N.NorState l.fn.nor l.nor (SameOutside 0 (l.g.blocks * l.g.block));
  units : l.units ≡ l.g.block / l.g.phys;
  mark : l.mark.at + 2 ≤ l.g.phys;
  few : g.N.NorState.device_writes l.nor ≤ g.N.NorState.device_writes l.fn.nor + l.i;
  below : l.i ≤ l.units;
  done : (g.N.NorState.tells l.fn.nor → ErasedTo l.g l.block (l.i * l.g.phys) (g.N.NorState.bytes l.fn.nor) (g.N.NorState.bytes l.nor));
}
