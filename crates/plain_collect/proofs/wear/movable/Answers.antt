use Rattle.std.proofs.Common.{arith}
use Rattle.std.proofs.lemmas.Grind.{common_steps}
use Rattle.plain_collect.proofs.Filtered.{filter_yes, filter_no}
use Rattle.plain_collect.proofs.wear.movable.Goals as goal
use Rattle.plain_collect.proofs.wear.movable.Goals.{then-is_movable+in_ok-push, else-is_movable}

pub loop-block-preserved : goal.loop-block-preserved
loop-block-preserved c =
    elim c.if-is_movable.branch [
      | then-is_movable+in_ok-push w ↦ filter_yes _ c.loop-block.blocks.items _ c.loop-block.block _ c.loop-block-test.true c.loop-block.invariant (grind (arith, common_steps)) (grind (arith, common_steps))
      | else-is_movable w ↦ filter_no _ c.loop-block.blocks.items _ c.loop-block.block _ c.loop-block-test.true c.loop-block.invariant (grind (arith, common_steps)) (grind (arith, common_steps))
    ]
