-- What the lines from here on tell is told of all.
use Rattle.std.proofs.Common.{◌-◌, length}
use Rattle.plain_promise.proofs.Checking.{IsSeen}
use Rattle.plain_promise.proofs.grammar.check_lines.Given as goal

abbrev pub invariant-loop-text : goal.invariant-loop-text
invariant-loop-text l = IsSeen l.script l.at l.number l.within l.promises

abbrev pub decreases-loop-text : goal.decreases-loop-text
decreases-loop-text l = length l.script - l.at
