-- What is left of those that agree decides.
use Rattle.std.proofs.Common.{◌≡◌, length}
use Rattle.front_words.specs.Settling.{agreeing, alone_in}
use Rattle.front_words.proofs.settling.find_alone.Given as goal

abbrev pub invariant-loop-next : goal.invariant-loop-next
invariant-loop-next l = alone_in (agreeing l.asked l.found) (agreeing l.asked l.found) ≡ alone_in (agreeing l.asked l.found) (agreeing l.asked l.left)

abbrev pub decreases-loop-next : goal.decreases-loop-next
decreases-loop-next l = length (agreeing l.asked l.left)
