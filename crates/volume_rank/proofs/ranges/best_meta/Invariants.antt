-- The best of those below.
use Rattle.volume_rank.specs.Tops.{IsBestOf}
use Rattle.volume_rank.proofs.ranges.best_meta.Given as goal

abbrev pub invariant-loop-meta : goal.invariant-loop-meta
invariant-loop-meta l = IsBestOf l.whole l.meta l.best
