-- The verdict on the events from here on is the verdict on all.
use Rattle.std.proofs.Common.{drop}
use Rattle.flash_trace.specs.declared.verdict.Verdict.{Verdict}
use Rattle.flash_trace.specs.Events.{at_first}
use Rattle.flash_trace.specs.Judging.{IsGoing, IsVerdictFrom, standing_of}
use Rattle.flash_trace.proofs.judge.judge.Given as goal

abbrev pub invariant-loop-i : goal.invariant-loop-i
invariant-loop-i l =
    IsGoing l.case l.going × ((v : Verdict) → IsVerdictFrom l.case l.i (drop l.i l.events) (standing_of l.going) v → IsVerdictFrom l.case 0 l.events (at_first l.case.first.now) v)
