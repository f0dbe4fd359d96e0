-- The places so far were walked.
use Rattle.std.proofs.Common.{◌-◌, [], length}
use Rattle.call_script.specs.Lines.{lines}
use Rattle.plain_table.specs.Moments.{moment_of, geometry_of}
use Rattle.promise_model.specs.Places.{places}
use Rattle.plain_promise.proofs.Over.{IsWalking}
use Rattle.plain_promise.proofs.walk.walk_lines.Given as goal

abbrev pub invariant-loop-text : goal.invariant-loop-text
invariant-loop-text l = IsWalking (places (geometry_of l.fn.first) (moment_of l.fn.first) [] 1 (lines l.script)) l.ends l.script l.at l.walk

abbrev pub decreases-loop-text : goal.decreases-loop-text
decreases-loop-text l = length l.script - l.at
