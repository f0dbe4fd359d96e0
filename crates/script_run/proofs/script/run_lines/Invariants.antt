use Rattle.std.proofs.Common.{◌≡◌, ◌≤◌, ◌+◌, ◌-◌, ◌*◌, None, true}
use Rattle.volume.specs.Stages.{takes_calls}
use Rattle.volume.specs.Same.{IsSameVolume}
use Rattle.volume.specs.Holds.{memory}
use Rattle.script_run.specs.Runs.{Works}
use Rattle.script_run.specs.Turns.{Turns, at_run}
use Rattle.script_run.proofs.script.run_lines.Given as goal

abbrev pub invariant-turns : goal.invariant-turns
invariant-turns g l = record {
  same : IsSameVolume l.fn.volume l.volume;
  faults : g.B.NorState.faults l.fn.volume.nor.now ≤ g.B.NorState.faults l.volume.nor.now;
  script : g.S.Source.faults l.fn.script ≤ g.S.Source.faults l.script;
  stands : takes_calls l.volume ≡ true;
  told : g.S.Source.tells l.fn.script → g.S.Source.tells l.script;
  works : Works g.B.NorState l.fn.volume.geometry l.fn.volume.nor.now l.volume.nor.now (memory l.fn.volume) (memory l.volume) None;
  turned : g.S.Source.tells l.fn.script → Turns g.B.NorState l.fn.volume.geometry None
      (at_run l.fn.volume.nor.now (memory l.fn.volume) l.fn.lines.buf.now l.fn.lines.start l.fn.lines.end l.fn.lines.taken l.fn.lines.handed (g.S.Source.left l.fn.script))
      (at_run l.volume.nor.now (memory l.volume) l.lines.buf.now l.lines.start l.lines.end l.lines.taken l.lines.handed (g.S.Source.left l.script));
}

abbrev pub decreases-turns : goal.decreases-turns
decreases-turns g l = 2 * (16777216 - l.lines.taken) + (l.lines.end - l.lines.start)
