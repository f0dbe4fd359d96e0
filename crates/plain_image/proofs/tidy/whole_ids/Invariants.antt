-- The ids so far.
use Rattle.plain_image.specs.Wanting.{AreWhole}
use Rattle.plain_image.proofs.tidy.whole_ids.Given as goal

abbrev pub invariant-loop-id : goal.invariant-loop-id
invariant-loop-id l = AreWhole l.g l.image l.id l.whole.items
