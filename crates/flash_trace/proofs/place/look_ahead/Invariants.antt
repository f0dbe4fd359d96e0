use Rattle.std.proofs.Common.{◌-◌, length}
use Rattle.flash_trace.specs.Lines.{Skips}
use Rattle.flash_trace.proofs.place.look_ahead.Given as goal

abbrev pub invariant-loop-text : goal.invariant-loop-text
invariant-loop-text l = Skips l.case.script.now l.at l.line l.place l.number

abbrev pub decreases-loop-text : goal.decreases-loop-text
decreases-loop-text l = length l.case.script.now - l.place
