-- The first bytes of a script were taken.
use Rattle.std.proofs.Common.{◌≡◌, ◌-◌, length}
use Rattle.trace_tool.proofs.Taking.{IsTaken}
use Rattle.trace_tool.proofs.copying.take_script.Given as goal

abbrev pub decreases-loop-end : goal.decreases-loop-end
decreases-loop-end g l = length l.text - l.end

abbrev pub invariant-loop-end : goal.invariant-loop-end
invariant-loop-end g l = record {
  size : length l.text ≡ length l.fn.text;
  taken : IsTaken g.S.Source l.fn.script l.script l.text l.end;
}
