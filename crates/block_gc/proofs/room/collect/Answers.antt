use Rattle.std.proofs.Common.{◌≡◌, rules, arith, Ok, Err}
use Rattle.nor_core.proofs.Cuts.{reads_none}
use Rattle.flash_view.specs.Steps.{Stepped, stopped}
use Rattle.flash_view.proofs.Looking.{looks_none}
use Rattle.flash_view.proofs.Stepped.{looked, passes, stepped_then, ends_as, view_image}
use Rattle.block_gc.proofs.Cleanings.{none_cut, stopping, cleaning_more, needed_none, cleanings_few, turn_begins, turn_goes, turn_stops, idle_then}
use Rattle.block_gc.proofs.room.collect.Goals as goal

pub loop-turn-init : goal.loop-turn-init
loop-turn-init g c =
    let view = c.args.v.now in
    record {
      step = looked (looks_none view) (λ e. absurd (cc)) tt (λ tells t. (none_cut _ _ t, needed_none _ _ _ _ (view_image view (g.met.N.Nor.sized _) tells) t));
      idle = λ tells t met. reads_none view.nor.now;
    }

pub returns-in_err-met-clause-step : goal.returns-in_err-met-clause-step
returns-in_err-met-clause-step g c =
    let was = c.loop-turn.invariant in
    let is : c.from_residual.result ≡ Err c.in_err-met.field-0.0 = search rules in
    let turn : Stepped stopped c.loop-turn.v c.collect_turn.new.v c.from_residual.result (stopping c.args.goal (g.N.NorState.device_writes c.loop-turn.v.nor.now) (g.N.NorState.device_writes c.collect_turn.new.v.nor.now)) = passes c.in_err-met.ensures.step is (λ tells t. record { needs = t; cut = λ d cut. cut }) in
    stepped_then was.step turn (λ tells t. turn_begins _ _ _ _ (λ d cut. cut) t) (λ tells t before. turn_stops _ _ _ _ t before)

pub returns-in-Some-clause-step : goal.returns-in-Some-clause-step
returns-in-Some-clause-step g c =
    let was = c.loop-turn.invariant in
    let turn : Stepped stopped c.loop-turn.v c.collect_turn.new.v (Ok c.in-Some.met) (stopping c.args.goal (g.N.NorState.device_writes c.loop-turn.v.nor.now) (g.N.NorState.device_writes c.collect_turn.new.v.nor.now)) = ends_as c.in_ok-met.ensures.step (λ tells t. record { needs = t; cut = λ d cut. cut }) (λ tells t done. rw c.in-Some.is at done) in
    stepped_then was.step turn (λ tells t. turn_begins _ _ _ _ (λ d cut. cut) t) (λ tells t before. turn_stops _ _ _ _ t before)

pub loop-turn-preserved : goal.loop-turn-preserved
loop-turn-preserved g c =
    let was = c.loop-turn.invariant in
    let call = c.in_ok-met.ensures in
    record {
      step =
          let turn : Stepped stopped c.loop-turn.v c.collect_turn.new.v (Ok tt) (cleaning_more c.args.goal (g.N.NorState.device_writes c.loop-turn.v.nor.now) (g.N.NorState.device_writes c.collect_turn.new.v.nor.now)) = ends_as call.step (λ tells t. record { needs = t; cut = λ d cut. cut }) (λ tells t done. rw c.in_default.is at done) in
          stepped_then was.step turn (λ tells t. turn_begins _ _ _ _ (λ d cut. cut) t) (λ tells t before. turn_goes _ _ _ _ t before);
      idle = idle_then c.collect_turn.new.v c.args.goal was.step was.idle call.idle;
    }

pub returns-clause-step : goal.returns-clause-step
returns-clause-step g c =
    let was = c.loop-turn.invariant in
    ends_as was.step (λ tells t. turn_begins _ _ _ _ (λ d cut. cut) t)
    (λ tells t before. let few = cleanings_few _ _ _ t before.cleanings in absurd (omega (arith, few, c.loop-turn-test.false)))

pub returns-in_err-met-clause-idle : goal.returns-in_err-met-clause-idle
returns-in_err-met-clause-idle g c = idle_then c.collect_turn.new.v c.args.goal c.loop-turn.invariant.step c.loop-turn.invariant.idle c.in_err-met.ensures.idle

pub returns-in-Some-clause-idle : goal.returns-in-Some-clause-idle
returns-in-Some-clause-idle g c = idle_then c.collect_turn.new.v c.args.goal c.loop-turn.invariant.step c.loop-turn.invariant.idle c.in_ok-met.ensures.idle
