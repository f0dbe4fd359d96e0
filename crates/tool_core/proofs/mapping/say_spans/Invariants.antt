-- The lines so far.
use Rattle.std.proofs.Common.{ℕ, ◌≤◌, ◌-◌}
use Rattle.volume.specs.Same.{IsSameVolume}
use Rattle.tool_core.specs.Mapping.{TellsPages}
use Rattle.tool_core.proofs.MapSays.{SpansSaid}
use Rattle.tool_core.proofs.mapping.say_spans.Given as goal

abbrev pub invariant-spans : goal.invariant-spans
invariant-spans g l = record {
  same : IsSameVolume l.fn.volume l.volume;
  few : l.span ≤ 4096;
  says : (id count : ℕ) → (g.B.NorState.tells l.fn.volume.nor.now → TellsPages id count l.fn.volume) → SpansSaid id count l.span l.fn.volume l.volume;
}

abbrev pub decreases-spans : goal.decreases-spans
decreases-spans g l = 4096 - l.span
