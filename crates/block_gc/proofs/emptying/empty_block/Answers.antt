use Rattle.std.proofs.Common.{◌≡◌, ◌+◌, ◌<◌, refl, arith, rules, Err}
use Rattle.geometry.specs.Numbers.{per_block, lookups, entries}
use Rattle.image_model.specs.Within.{entry_in}
use Rattle.flash_view.proofs.Looking.{looks_none}
use Rattle.flash_view.proofs.Stepped.{looked, weaker, passes, stepped_then, view_image}
use Rattle.block_gc.proofs.EntryTurns.{emptying_to, none_turned, turns_begin, turns_pass, next_turn, turns_end}
use Rattle.block_gc.proofs.emptying.empty_block.Goals as goal

pub loop-i-init : goal.loop-i-init
loop-i-init g c =
    let view = c.args.v.now in
    record {
      geometry = refl;
      end = c.entries-i-end.ensures.count;
      step = looked {step = emptying_to c.args.block c.args.most 0} (looks_none view) (λ e. absurd (cc)) tt (λ tells can. none_turned _ _ c.args.block c.args.most (view_image view (g.met.N.Nor.sized _) tells) can);
      few = λ tells can. omega arith;
    }

pub empty_entry-requires-clause-at : goal.empty_entry-requires-clause-at
unfolding per_block lookups entries
empty_entry-requires-clause-at g c =
    let was = c.loop-i.invariant in
    let geometry = c.args.v.now.geometry in
    let place = rw was.geometry at c.entry_page.ensures.place in
    let less : c.loop-i.i < entries geometry = omega (arith, was.end, c.loop-i-test.true) in
    let here = entry_in geometry c.args.block c.entry_page.result c.requires.block (omega (arith, place)) (omega (arith, place, less)) in
    rw was.step.framed.same.geometry here.0

pub returns-in_err-empty_entry-clause-step : goal.returns-in_err-empty_entry-clause-step
unfolding per_block lookups
returns-in_err-empty_entry-clause-step g c =
    let was = c.loop-i.invariant in
    let place = rw was.geometry at c.entry_page.ensures.place in
    let is : c.from_residual.result ≡ Err c.in_err-empty_entry.field-0.0 = search rules in
    passes
    (stepped_then was.step c.in_err-empty_entry.ensures.step (λ tells can. turns_begin _ _ c.args.block c.args.most c.loop-i.i (c.loop-i.i + 1) can) (λ tells can so_far. next_turn _ _ _ _ _ _ _ place (omega arith) so_far))
    is (λ tells can. turns_pass _ _ c.args.block c.args.most (c.loop-i.i + 1) can)

pub loop-i-preserved : goal.loop-i-preserved
unfolding per_block lookups
loop-i-preserved g c =
    let was = c.loop-i.invariant in
    let place = rw was.geometry at c.entry_page.ensures.place in
    record {
      geometry = was.geometry;
      end = was.end;
      step = stepped_then was.step c.in_ok-empty_entry.ensures.step (λ tells can. turns_begin _ _ c.args.block c.args.most c.loop-i.i (c.loop-i.i + 1) can) (λ tells can so_far. next_turn _ _ _ _ _ _ _ place (omega arith) so_far);
      few = λ tells can.
          let so_far = was.step.ends tells can in
          let turn = rw was.step.framed.same.geometry at (c.in_ok-empty_entry.ensures.few (was.step.cuts.cuts.told tells)) in
          let less = turn so_far.can (λ q here below. so_far.gone q here (omega (arith, below, place))) in
          omega (arith, was.few tells can, less);
    }

pub returns-clause-step : goal.returns-clause-step
unfolding per_block lookups entries
returns-clause-step g c =
    let was = c.loop-i.invariant in
    weaker was.step (λ tells can. turns_end _ _ c.args.block c.args.most c.loop-i.i (omega (arith, was.end, c.loop-i-test.false)) can)

pub returns-in_err-empty_entry-clause-few : goal.returns-in_err-empty_entry-clause-few
returns-in_err-empty_entry-clause-few g c =
    let is : c.from_residual.result ≡ Err c.in_err-empty_entry.field-0.0 = search rules in
    λ tells can. rw is tt

pub returns-clause-few : goal.returns-clause-few
returns-clause-few g c = λ tells can. c.loop-i.invariant.few tells can
