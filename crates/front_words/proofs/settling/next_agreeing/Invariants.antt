use Rattle.std.proofs.Common.{◌≡◌, length}
use Rattle.front_words.specs.Settling.{agreeing}
use Rattle.front_words.proofs.settling.next_agreeing.Given as goal

abbrev pub invariant-loop-left : goal.invariant-loop-left
invariant-loop-left l = agreeing l.asked l.left ≡ agreeing l.fn.asked l.fn.found

abbrev pub decreases-loop-left : goal.decreases-loop-left
decreases-loop-left l = length l.left
