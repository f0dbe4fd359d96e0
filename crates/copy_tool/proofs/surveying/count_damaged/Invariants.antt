-- Each damaged id up to `after` was counted.
use Rattle.std.proofs.Common.{◌-◌, ◌≤◌}
use Rattle.nor_core.specs.Device.{OnlyReads}
use Rattle.vol_mount.specs.Readers.{IsSameReader}
use Rattle.copy_tool.proofs.Counted.{DamagedCounted}
use Rattle.copy_tool.proofs.surveying.count_damaged.Given as goal

abbrev pub decreases-ids : goal.decreases-ids
decreases-ids g l = 0x10000 - l.after

abbrev pub invariant-ids : goal.invariant-ids
invariant-ids g l = record {
  reads : OnlyReads g.N.NorState l.fn.from.nor.now l.from.nor.now;
  same : IsSameReader l.fn.from l.from;
  few : l.count ≤ l.after;
  told : (g.N.NorState.tells l.fn.from.nor.now → DamagedCounted l.fn.from.geometry (g.N.NorState.bytes l.fn.from.nor.now) l.after l.count);
}
