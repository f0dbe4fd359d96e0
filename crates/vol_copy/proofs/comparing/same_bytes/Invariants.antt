-- So many bytes were read, and are the same.
use Rattle.std.proofs.Common.{◌≤◌, ◌-◌}
use Rattle.nor_core.specs.Device.{OnlyReads}
use Rattle.vol_mount.specs.Readers.{IsSameReader}
use Rattle.volume.specs.Same.{IsSameVolume}
use Rattle.vol_copy.specs.Stages.{Works, With}
use Rattle.vol_copy.specs.Seen.{IsLooking, Looked}
use Rattle.vol_copy.proofs.comparing.same_bytes.Given as goal

abbrev pub invariant-loop-at : goal.invariant-loop-at
invariant-loop-at g l = record {
  within : l.at ≤ l.stat.size;
  reads : OnlyReads g.N.NorState l.fn.from.nor.now l.from.nor.now;
  same_from : IsSameReader l.fn.from l.from;
  same_to : IsSameVolume l.fn.to l.to;
  looked : Looked (With g.N.NorState l.fn.from (Works l.fd 8 (IsLooking l.stat 0))) (Works l.fd 8 (IsLooking l.stat l.at)) l.fn.to l.to;
}

abbrev pub decreases-loop-at : goal.decreases-loop-at
decreases-loop-at g l = l.stat.size - l.at
