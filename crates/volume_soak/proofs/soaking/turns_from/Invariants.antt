use Rattle.std.proofs.Common.{◌-◌, ◌≡◌, ◌≤◌, length}
use Rattle.nor_core.specs.Draws.{number_after}
use Rattle.volume_run.specs.Ready.{IsMoved}
use Rattle.volume_soak.specs.Doing.{HasSoakedFrom}
use Rattle.volume_soak.proofs.soaking.turns_from.Given as goal

abbrev pub invariant-loop-made : goal.invariant-loop-made
invariant-loop-made g l = record {
  few : l.made ≤ l.turns;
  number : l.number ≡ number_after l.seed l.made;
  ok : l.ok ≤ l.made;
  size : length l.lent ≡ length l.initial.lent;
  moved : IsMoved l.fn.volume l.volume;
  soaked : HasSoakedFrom l.fn.volume l.seed l.made l.volume l.ok;
}

abbrev pub decreases-loop-made : goal.decreases-loop-made
decreases-loop-made g l = l.turns - l.made
