-- The records up to an id have their copies, so many of them made anew.
use Rattle.std.proofs.Common.{◌+◌, ◌≤◌, ◌-◌}
use Rattle.nor_core.specs.Device.{OnlyReads}
use Rattle.vol_mount.specs.Readers.{IsSameReader}
use Rattle.volume.specs.Same.{IsSameVolume}
use Rattle.vol_copy.proofs.Turning.{HasGone}
use Rattle.vol_copy.proofs.copying.copy_each.Given as goal

abbrev pub invariant-records : goal.invariant-records
invariant-records g l = record {
  few : l.done.copied + l.done.kept ≤ l.after;
  reads : OnlyReads g.N.NorState l.fn.from.nor.now l.from.nor.now;
  same_from : IsSameReader l.fn.from l.from;
  same_to : IsSameVolume l.fn.to l.to;
  gone : HasGone l.fn.from l.fn.to l.after l.done l.to;
}

abbrev pub decreases-records : goal.decreases-records
decreases-records g l = 65536 - l.after
