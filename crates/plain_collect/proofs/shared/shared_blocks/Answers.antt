use Rattle.std.proofs.Common.{arith}
use Rattle.std.proofs.lemmas.Grind.{common_steps}
use Rattle.plain_image.proofs.Ranges.{count_yes, count_no}
use Rattle.plain_collect.proofs.shared.shared_blocks.Goals as goal
use Rattle.plain_collect.proofs.shared.shared_blocks.Goals.{then-is_shared, else-is_shared}

pub loop-block-preserved : goal.loop-block-preserved
loop-block-preserved c =
    elim c.if-is_shared.branch [
      | then-is_shared w ↦ count_yes _ c.loop-block.count _ c.loop-block.block _ c.loop-block-test.true c.loop-block.invariant (grind (arith, common_steps)) (grind arith)
      | else-is_shared w ↦ count_no _ c.loop-block.count _ c.loop-block.block _ c.loop-block-test.true c.loop-block.invariant (grind (arith, common_steps)) (grind arith)
    ]
