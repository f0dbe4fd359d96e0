-- The lines so far were passed.
use Rattle.std.proofs.Common.{◌-◌, length}
use Rattle.plain_table.specs.Moments.{moment_of, geometry_of}
use Rattle.plain_promise.proofs.Passing.{IsPassed}
use Rattle.plain_promise.proofs.ends.find_ends.Given as goal

abbrev pub invariant-loop-text : goal.invariant-loop-text
invariant-loop-text l = IsPassed (geometry_of l.fn.first) (moment_of l.fn.first) l.script l.at l.number l.passed

abbrev pub decreases-loop-text : goal.decreases-loop-text
decreases-loop-text l = length l.script - l.at
