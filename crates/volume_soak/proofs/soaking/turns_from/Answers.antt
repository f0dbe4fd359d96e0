use Rattle.std.proofs.Common.{◌≡◌, ◌+◌, ◌/◌, ◌^◌, ℕ, refl, ◌∙◌, ap, subst, arith}
use Rattle.nor_core.specs.Draws.{drawn}
use Rattle.nor_core.proofs.Draws.{number_after-none, number_next}
use Rattle.volume_run.proofs.Moving.{moved_none, moved_then}
use Rattle.volume_run.proofs.Stopping.{stops_passed}
use Rattle.volume_soak.specs.Asks.{IsDraw}
use Rattle.volume_soak.specs.Doing.{HasSoakedFrom}
use Rattle.volume_soak.proofs.ManyTurns.{byte_is, byte_most, soaks_none, soaks_more, stops_soaked}
use Rattle.volume_soak.proofs.soaking.turns_from.Goals as goal

pub loop-made-init : goal.loop-made-init
loop-made-init g c = record {
  few = omega arith;
  number = number_after-none c.args.seed;
  ok = omega arith;
  size = refl;
  moved = moved_none c.args.volume.now;
  soaked = soaks_none c.args.volume.now c.args.seed;
}

pub returns-in_err-is_done-clause-moved : goal.returns-in_err-is_done-clause-moved
returns-in_err-is_done-clause-moved g c = moved_then c.loop-made.invariant.moved c.in_err-is_done.ensures.moved

pub returns-in_err-is_done-clause-stops : goal.returns-in_err-is_done-clause-stops
returns-in_err-is_done-clause-stops g c =
    stops_passed c.from_residual.result _ c.from_residual.ensures.1 (stops_soaked c.args.seed c.loop-made.made c.loop-made.ok _ c.loop-made.invariant.soaked c.in_err-is_done.ensures.stops)

pub returns-clause-soaked : goal.returns-clause-soaked
returns-clause-soaked g c =
    let all : c.loop-made.made ≡ c.args.turns = omega (arith, c.loop-made.invariant.few, c.loop-made-test.false) in
    subst (λ (k : ℕ). HasSoakedFrom c.args.volume.now c.args.seed k c.loop-made.volume c.loop-made.ok) all c.loop-made.invariant.soaked

pub loop-made-preserved : goal.loop-made-preserved
loop-made-preserved g c =
    let was = c.loop-made.invariant in
    record {
      few = omega (arith, c.loop-made-test.true);
      number = number_next c.args.seed c.loop-made.made c.loop-made.number c.draw-r.new.x was.number c.draw-r.ensures.number;
      ok = omega (arith, was.ok, c.from-ok.ensures, byte_most c.in_ok-is_done.is_done);
      size = c.in_ok-is_done.ensures.size ∙ was.size;
      moved = moved_then was.moved c.in_ok-is_done.ensures.moved;
      soaked = soaks_more c.args.seed c.loop-made.made c.loop-made.ok _ c.in_ok-is_done.is_done (ap (λ (n : ℕ). c.loop-made.ok + n) (c.from-ok.ensures ∙ byte_is c.in_ok-is_done.is_done)) was.soaked
          (c.in_ok-is_done.ensures.did (drawn c.args.seed c.loop-made.made) (subst (λ (r : ℕ). IsDraw r c.draw_of.result) (c.draw-r.ensures.drawn ∙ ap (λ (x : ℕ). x / 2 ^ 33) (number_next c.args.seed c.loop-made.made c.loop-made.number c.draw-r.new.x was.number c.draw-r.ensures.number)) c.draw_of.ensures.is));
    }
