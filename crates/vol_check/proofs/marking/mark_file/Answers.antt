use Rattle.std.proofs.lemmas.Result.{on_ok_weaker}
use Rattle.vol_check.proofs.MarkSteps.{adds_then}
use Rattle.vol_check.proofs.WantedPages.{has_furthers}
use Rattle.vol_check.proofs.marking.mark_file.Goals as goal

pub returns-clause-told : goal.returns-clause-told
returns-clause-told g c = λ tells whole.
    let head = c.in_ok-spans.ensures in
    let furthers = rw (head.looks.same.geometry, head.looks.reads.bytes, head.spans tells) at (c.mark_furthers.ensures.told (head.looks.reads.told tells)) in
    on_ok_weaker c.mark_furthers.result (λ adds. adds_then (head.told tells) adds) (furthers (has_furthers _ _ _ _ whole))
