-- The pages so far.
use Rattle.plain_image.specs.Wanting.{AreWanted}
use Rattle.plain_image.proofs.tidy.wanted_pages.Given as goal

abbrev pub invariant-loop-p : goal.invariant-loop-p
invariant-loop-p l = AreWanted l.g l.image l.p l.wanted.items
