use Rattle.std.proofs.Common.{◌≡◌, ◌+◌, ◌-◌, length, false}
use Rattle.std.specs.Prelude.{if◌then◌else◌}
use Rattle.flash_trace.specs.Ways.{IsQuiet}
use Rattle.flash_trace.specs.Places.{IsPlace, begins, part_of}
use Rattle.flash_trace.proofs.place.settled.Given as goal

abbrev pub invariant-loop-turn : goal.invariant-loop-turn
invariant-loop-turn l =
    IsPlace l.case.g.now (begins l.case) l.case.script.now l.turn.place × (l.turn.place.said.items ≡ l.fn.place.said.items) × (l.turn.again ≡ false → IsQuiet (part_of l.turn.place) l.turn.place.ahead)

abbrev pub decreases-loop-turn : goal.decreases-loop-turn
decreases-loop-turn l = length l.turn.place.said.items - l.turn.place.heard + (if l.turn.again then 1 else 0)
