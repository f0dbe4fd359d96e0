-- What is left of those that agree decides.
use Rattle.std.proofs.Common.{◌≡◌, length}
use Rattle.std.specs.List.{list_all}
use Rattle.front_words.specs.Settling.{agreeing, no_rival}
use Rattle.front_words.proofs.settling.is_sure.Given as goal

abbrev pub invariant-loop-next : goal.invariant-loop-next
invariant-loop-next l = list_all (no_rival l.best) (agreeing l.asked l.fn.found) ≡ list_all (no_rival l.best) (agreeing l.asked l.left)

abbrev pub decreases-loop-next : goal.decreases-loop-next
decreases-loop-next l = length (agreeing l.asked l.left)
