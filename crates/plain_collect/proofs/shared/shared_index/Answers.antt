use Rattle.std.proofs.Common.{arith}
use Rattle.std.proofs.lemmas.Grind.{common_steps}
use Rattle.plain_collect.proofs.Sums.{sum_more}
use Rattle.plain_collect.proofs.shared.shared_index.Goals as goal

pub loop-block-preserved : goal.loop-block-preserved
loop-block-preserved c = sum_more _ c.loop-block.total _ c.loop-block.block _ c.loop-block-test.true c.loop-block.invariant (rw (← c.index_part.ensures.value) c.index_part.ensures.small) (grind (arith, common_steps))
