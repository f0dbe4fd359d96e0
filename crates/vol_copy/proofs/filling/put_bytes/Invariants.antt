-- The bytes before a place were written: all from the start of a data page on to its end, or that of the record.
use Rattle.std.proofs.Common.{◌≡◌, ◌-◌, ◌≤◌, ◌%◌, ◌⊎◌}
use Rattle.nor_core.specs.Device.{OnlyReads}
use Rattle.geometry.specs.Numbers.{body}
use Rattle.vol_mount.specs.Readers.{IsSameReader}
use Rattle.volume.specs.Same.{IsSameVolume}
use Rattle.copy_model.specs.Parts.{IsFilling}
use Rattle.vol_copy.specs.Stages.{Works, With, CutsUnder, Leads}
use Rattle.vol_copy.proofs.filling.put_bytes.Given as goal

abbrev pub invariant-loop-at : goal.invariant-loop-at
invariant-loop-at g l = record {
  within : l.at ≤ l.stat.size;
  ends : (l.at % body l.fn.to.geometry ≡ 0) ⊎ (l.at ≡ l.stat.size);
  reads : OnlyReads g.N.NorState l.fn.from.nor.now l.from.nor.now;
  same_from : IsSameReader l.fn.from l.from;
  same_to : IsSameVolume l.fn.to l.to;
  cuts : CutsUnder (With g.N.NorState l.fn.from (Works l.fd 52 (IsFilling l.stat 0))) l.fn.to l.to;
  leads : Leads (With g.N.NorState l.fn.from (Works l.fd 52 (IsFilling l.stat 0))) (Works l.fd 52 (IsFilling l.stat l.at)) l.fn.to l.to;
}

abbrev pub decreases-loop-at : goal.decreases-loop-at
decreases-loop-at g l = l.stat.size - l.at
