-- The units below `i` are erased, by as many erases, and each image that a cut may have left has one of them in its erase.
use Rattle.std.proofs.Common.{◌≡◌, ◌+◌, ◌*◌, ◌/◌, ◌<◌, ◌≤◌, true}
use Rattle.nor_core.specs.Device.{Changes}
use Rattle.flash_view.specs.Same.{IsSameView}
use Rattle.page_put.specs.Fresh.{InErasing, with_front_erased}
use Rattle.page_put.proofs.fresh.erase_block.Given as goal

abbrev pub invariant-loop-i : goal.invariant-loop-i
invariant-loop-i g l = record {
  units : l.units ≡ l.fn.v.geometry.block / l.fn.v.geometry.phys;
  below : l.i ≤ l.units;
  same : IsSameView l.fn.v l.v;
  rows : l.v.rows.now ≡ l.fn.v.rows.now;
  wrote : 0 < l.i → l.v.wrote ≡ true;
  changes : Changes g.N.NorState l.fn.v.nor.now l.v.nor.now (InErasing l.fn.v.geometry l.block);
  done : (g.N.NorState.tells l.fn.v.nor.now → g.N.NorState.bytes l.v.nor.now ≡ with_front_erased l.fn.v.geometry l.block (l.i * l.fn.v.geometry.phys) (g.N.NorState.bytes l.fn.v.nor.now));
  few : g.N.NorState.device_writes l.v.nor.now ≤ g.N.NorState.device_writes l.fn.v.nor.now + l.i;
}
