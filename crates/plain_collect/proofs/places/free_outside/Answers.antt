use Rattle.std.proofs.Common.{arith}
use Rattle.std.proofs.lemmas.Grind.{common_steps}
use Rattle.plain_collect.proofs.Sums.{sum_more}
use Rattle.plain_collect.proofs.places.free_outside.Goals as goal

pub loop-block-preserved : goal.loop-block-preserved
loop-block-preserved c = sum_more _ c.loop-block.total _ c.loop-block.block _ c.loop-block-test.true c.loop-block.invariant (rw (← c.free_other.ensures.value) c.free_other.ensures.small) (grind (arith, common_steps))
