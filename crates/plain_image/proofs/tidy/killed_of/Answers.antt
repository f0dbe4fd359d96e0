use Rattle.std.proofs.Common.{arith}
use Rattle.std.proofs.lemmas.Grind.{common_steps}
use Rattle.plain_image.proofs.Ranges.{count_yes, count_no}
use Rattle.plain_image.proofs.tidy.killed_of.Goals as goal
use Rattle.plain_image.proofs.tidy.killed_of.Goals.{then-killed, else-killed}

pub loop-p-preserved : goal.loop-p-preserved
loop-p-preserved c =
    elim c.if-killed.branch [
      | then-killed w ↦ count_yes _ c.loop-p.count _ c.loop-p.p _ c.loop-p-test.true c.loop-p.invariant (grind (arith, common_steps)) (grind arith)
      | else-killed w ↦ count_no _ c.loop-p.count _ c.loop-p.p _ c.loop-p-test.true c.loop-p.invariant (grind (arith, common_steps)) (grind arith)
    ]
