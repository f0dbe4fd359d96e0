-- The first of those that were looked at.
use Rattle.volume_rank.proofs.Orders.{FirstTo}
use Rattle.volume_rank.proofs.ordering.next_best.Given as goal

abbrev pub invariant-loop-i : goal.invariant-loop-i
invariant-loop-i l = FirstTo l.found l.i l.after l.best
