use Rattle.std.proofs.Common.{arith}
use Rattle.std.proofs.lemmas.Grind.{common_steps}
use Rattle.plain_collect.proofs.Greatest.{greatest_yes, greatest_no}
use Rattle.plain_collect.proofs.wear.young.Goals as goal
use Rattle.plain_collect.proofs.wear.young.Goals.{then-is_free_block, else-is_free_block}

pub loop-block-preserved : goal.loop-block-preserved
loop-block-preserved c =
    elim c.if-is_free_block.branch [
      | then-is_free_block w ↦ greatest_yes _ _ c.loop-block.most _ c.loop-block.block _ c.loop-block-test.true c.loop-block.invariant (grind (arith, common_steps)) (grind (arith, common_steps)) (grind (arith, common_steps))
      | else-is_free_block w ↦ greatest_no _ _ c.loop-block.most _ c.loop-block.block _ c.loop-block-test.true c.loop-block.invariant (grind (arith, common_steps)) (grind arith)
    ]
