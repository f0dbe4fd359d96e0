use Rattle.std.proofs.Common.{◌≡◌, refl, arith, rules, Err}
use Rattle.flash_view.proofs.Looking.{looks_none}
use Rattle.flash_view.proofs.Stepped.{looked, weaker, passes, stepped_then}
use Rattle.block_gc.proofs.BatchCalls.{part_begin, part_pass, part_on, part_ends}
use Rattle.block_gc.proofs.BatchEnds.{first_begins, first_stays}
use Rattle.block_gc.proofs.BatchRuns.{in_block, first_below}
use Rattle.image_model.specs.Within.{block_number}
use Rattle.block_gc.proofs.batch.carry_all.Goals as goal

pub behind-page-end-requires : goal.behind-page-end-requires
behind-page-end-requires g c = rw c.requires.at at (block_number c.args.v.now.geometry c.args.first c.requires.first.below)

pub loop-page-init : goal.loop-page-init
loop-page-init g c =
    let a = c.args in
    record {
      from = omega arith;
      end = c.behind-page-end.ensures;
      most = (first_below a.v.now.geometry a.block a.first c.requires.first c.requires.at);
      run = omega arith;
      few = omega arith;
      step = λ span. looked (looks_none a.v.now) (λ e. absurd (cc)) tt (λ tells can. (first_stays _ _ a.block a.most a.batch a.first span can, first_begins _ _ a.block a.most a.batch a.first span can _ refl refl));
    }

pub carry_turn-requires-clause-page : goal.carry_turn-requires-clause-page
carry_turn-requires-clause-page g c =
    let so_far = c.loop-page.invariant in
    let here = in_block c.args.v.now.geometry c.args.block c.args.first c.loop-page.page c.requires.first c.requires.at so_far.from (omega (arith, so_far.end, c.loop-page-test.true)) in
    rw (so_far.step 0).framed.same.geometry here.0

pub loop-page-preserved : goal.loop-page-preserved
loop-page-preserved g c =
    let so_far = c.loop-page.invariant in
    let a = c.args in
    let here = in_block a.v.now.geometry a.block a.first c.loop-page.page c.requires.first c.requires.at so_far.from (omega (arith, so_far.end, c.loop-page-test.true)) in
    record {
      from = omega (arith, so_far.from);
      end = so_far.end;
      most = omega (arith, so_far.end, c.loop-page-test.true);
      run = c.in_ok-run.ensures.end;
      few = omega (arith, so_far.few, c.in_ok-run.ensures.few);
      step = λ span. stepped_then (so_far.step span) (c.in_ok-run.ensures.step (g.N.NorState.bytes a.v.now.nor.now) a.first)
          (λ tells need. part_begin _ _ a.block a.most a.batch a.first span _ _ need)
          (λ tells need s. part_on _ _ _ a.block a.most a.batch a.first span c.loop-page.page c.loop-page.run s here.1 so_far.from);
    }

pub returns-in_err-run-clause-step : goal.returns-in_err-run-clause-step
returns-in_err-run-clause-step g c = λ span.
    let so_far = c.loop-page.invariant in
    let a = c.args in
    let here = in_block a.v.now.geometry a.block a.first c.loop-page.page c.requires.first c.requires.at so_far.from (omega (arith, so_far.end, c.loop-page-test.true)) in
    let is : c.from_residual.result ≡ Err c.in_err-run.field-0.0 = search rules in
    passes
    (stepped_then (so_far.step span) (c.in_err-run.ensures.step (g.N.NorState.bytes a.v.now.nor.now) a.first)
    (λ tells need. part_begin _ _ a.block a.most a.batch a.first span _ _ need)
    (λ tells need s. part_on _ _ _ a.block a.most a.batch a.first span c.loop-page.page c.loop-page.run s here.1 so_far.from))
    is (λ tells need. part_pass _ _ a.block a.most a.batch a.first span _ need)

pub returns-clause-step : goal.returns-clause-step
returns-clause-step g c = λ span.
    let so_far = c.loop-page.invariant in
    let a = c.args in
    weaker (so_far.step span) (λ tells need. part_ends _ _ a.block a.most a.batch a.first span c.loop-page.page (omega (arith, so_far.end, c.loop-page-test.false)) need)

pub returns-clause-end : goal.returns-clause-end
returns-clause-end g c = let so_far = c.loop-page.invariant in omega (arith, so_far.run, so_far.most, so_far.end)

pub returns-clause-few : goal.returns-clause-few
returns-clause-few g c = c.loop-page.invariant.few
