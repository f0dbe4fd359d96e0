use Rattle.flash_view.proofs.Looking.{looks_then}
use Rattle.vol_check.proofs.MarkSteps.{first_next}
use Rattle.vol_check.proofs.marking.mark_furthers.Goals as goal

pub loop-k-preserved : goal.loop-k-preserved
loop-k-preserved g c =
    let was = c.loop-k.invariant in
    let turn = c.in_ok-mark_further.ensures in
    record {
      count = was.count;
      looks = looks_then was.looks turn.looks;
      told = λ tells. first_next (was.told tells) (rw (was.looks.same.geometry, was.looks.reads.bytes) at (turn.told (was.looks.reads.told tells)));
    }
