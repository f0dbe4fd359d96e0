-- The first `slot` of them are marked.
use Rattle.vol_check.specs.Needed.{AddsMarks, IsNamed}
use Rattle.vol_check.proofs.marking.mark_named.Given as goal

abbrev pub invariant-loop-slot : goal.invariant-loop-slot
invariant-loop-slot l = AddsMarks l.pages (IsNamed l.index l.at l.slot) l.fn.marks l.marks
