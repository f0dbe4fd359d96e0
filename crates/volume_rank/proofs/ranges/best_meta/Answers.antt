use Rattle.volume_rank.proofs.Tops.{best_next}
use Rattle.volume_rank.proofs.ranges.best_meta.Goals as goal

pub loop-meta-preserved : goal.loop-meta-preserved
loop-meta-preserved c = best_next c.args.whole.now c.loop-meta.meta c.loop-meta.best c.better-best.result c.loop-meta.invariant c.better-best.ensures
