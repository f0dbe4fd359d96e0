use Rattle.std.proofs.Common.{arith}
use Rattle.std.proofs.lemmas.Grind.{common_steps}
use Rattle.plain_image.proofs.Ranges.{tally_yes, tally_no}
use Rattle.plain_image.proofs.counts.count_entries.Goals as goal
use Rattle.plain_image.proofs.counts.count_entries.Goals.{then-is_entry, else-is_entry}

pub loop-p-preserved : goal.loop-p-preserved
loop-p-preserved c =
    elim c.if-is_entry.branch [
      | then-is_entry w ↦ tally_yes _ _ c.loop-p.count _ c.loop-p.p _ _ c.loop-p-test.true c.loop-p.invariant (grind (arith, common_steps)) (grind arith)
      | else-is_entry w ↦ tally_no _ _ c.loop-p.count _ c.loop-p.p _ _ c.loop-p-test.true c.loop-p.invariant (grind (arith, common_steps)) (grind arith)
    ]
