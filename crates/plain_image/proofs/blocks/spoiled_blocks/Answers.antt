use Rattle.std.proofs.Common.{arith}
use Rattle.std.proofs.lemmas.Grind.{common_steps}
use Rattle.plain_image.proofs.Ranges.{count_yes, count_no}
use Rattle.plain_image.proofs.blocks.spoiled_blocks.Goals as goal
use Rattle.plain_image.proofs.blocks.spoiled_blocks.Goals.{then-not-has_magic, else-not-has_magic}

pub loop-block-preserved : goal.loop-block-preserved
loop-block-preserved c =
    elim c.if-not-has_magic.branch [
      | then-not-has_magic w ↦ count_yes _ c.loop-block.count _ c.loop-block.block _ c.loop-block-test.true c.loop-block.invariant (grind (arith, common_steps)) (grind arith)
      | else-not-has_magic w ↦ count_no _ c.loop-block.count _ c.loop-block.block _ c.loop-block-test.true c.loop-block.invariant (grind (arith, common_steps)) (grind arith)
    ]
