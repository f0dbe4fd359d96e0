use Rattle.std.proofs.Common.{◌≡◌, arith, refl, sym, None, Some, rules}
use Rattle.std.specs.Prelude.{slice_range}
use Rattle.volume.specs.Holds.{memory}
use Rattle.volume.proofs.Staying.{same_then, same_none}
use Rattle.script_run.proofs.Turning.{took_more, turn_then}
use Rattle.script_run.proofs.Working.{works_none, works_then}
use Rattle.script_run.proofs.script.run_lines.Goals as goal

pub turns-init : goal.turns-init
turns-init g c = record {
  same = same_none c.args.volume.now;
  faults = omega arith;
  script = omega arith;
  stands = search rules;
  told = λ tells. tells;
  works = works_none c.args.volume.now.nor.now (memory c.args.volume.now);
  turned = λ tells m stands. took_more c.args.volume.now.nor.now (memory c.args.volume.now) m (slice_range c.args.lines.now.buf.now c.args.lines.now.start c.args.lines.now.end) (g.S.Source.left c.args.script.now) (slice_range c.args.lines.now.buf.now c.args.lines.now.start c.args.lines.now.end) (g.S.Source.left c.args.script.now) c.args.lines.now.taken c.args.lines.now.taken c.args.lines.now.handed stands refl refl;
}

pub turns-preserved : goal.turns-preserved
turns-preserved g c = record {
  same = same_then c.turns.invariant.same c.turn.ensures.same;
  faults = search rules;
  script = search rules;
  stands = search rules;
  told = λ tells. c.turn.ensures.told (c.turns.invariant.told tells);
  works = let none : c.turn.result ≡ None = search rules in rw (sym none) (works_then c.turn.result _ c.turns.invariant.same.geometry c.turns.invariant.works c.turn.ensures.works);
  turned = λ tells m stands. let none : c.turn.result ≡ None = search rules in rw (sym none) (turn_then c.turn.result _ m _ _ _ c.turns.invariant.same.geometry (c.turns.invariant.turned tells m stands) (c.turn.ensures.turned (c.turns.invariant.told tells)));
}

pub returns-in-Some-clause-turned : goal.returns-in-Some-clause-turned
returns-in-Some-clause-turned g c = λ tells m stands. turn_then (Some c.in-Some.ending) _ m _ _ _ c.turns.invariant.same.geometry (c.turns.invariant.turned tells m stands) (c.in-Some.ensures.turned (c.turns.invariant.told tells))

pub returns-in-Some-clause-works : goal.returns-in-Some-clause-works
returns-in-Some-clause-works g c = works_then (Some c.in-Some.ending) _ c.turns.invariant.same.geometry c.turns.invariant.works c.in-Some.ensures.works
