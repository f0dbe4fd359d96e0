use Rattle.std.proofs.Common.{arith}
use Rattle.std.proofs.lemmas.Grind.{common_steps}
use Rattle.plain_collect.proofs.Greatest.{greatest_yes, greatest_no}
use Rattle.plain_collect.proofs.ages.next_count.Goals as goal
use Rattle.plain_collect.proofs.ages.next_count.Goals.{then-has_magic, else-has_magic}

pub loop-block-preserved : goal.loop-block-preserved
loop-block-preserved c =
    elim c.if-has_magic.branch [
      | then-has_magic w ↦ greatest_yes _ _ c.loop-block.next _ c.loop-block.block _ c.loop-block-test.true c.loop-block.invariant (grind (arith, common_steps)) (grind (arith, common_steps)) (grind (arith, common_steps))
      | else-has_magic w ↦ greatest_no _ _ c.loop-block.next _ c.loop-block.block _ c.loop-block-test.true c.loop-block.invariant (grind (arith, common_steps)) (grind arith)
    ]
