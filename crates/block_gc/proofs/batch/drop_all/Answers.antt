use Rattle.std.proofs.Common.{◌≡◌, ◌+◌, ◌-◌, ◌<◌, ◌≤◌, refl, arith, []}
use Rattle.flash_view.proofs.Looking.{looks_none}
use Rattle.flash_view.proofs.Stepped.{looked, fails, ends_as, stepped_then}
use Rattle.block_gc.proofs.BatchDrops.{drops_stay}
use Rattle.block_gc.proofs.BatchEnds.{down_none, down_begins, down_begin, down_on, down_all}
use Rattle.block_gc.proofs.BatchRuns.{in_block}
use Rattle.block_gc.proofs.batch.drop_all.Goals as goal

pub loop-page-init : goal.loop-page-init
loop-page-init g c =
    let a = c.args in
    record {
      from = omega arith;
      end = refl;
      few = omega arith;
      step = λ was most. looked (looks_none a.v.now) (λ e. absurd (cc)) tt (λ tells need. (drops_stay _ was _ a.block most a.first _ need.1, down_none _ was _ a.block most a.batch a.first a.run _ _ (omega arith) refl));
    }

pub drop_turn-requires : goal.drop_turn-requires
drop_turn-requires g c =
    let so_far = c.loop-page.invariant in
    let a = c.args in
    let here = in_block a.v.now.geometry a.block a.first (a.run.end - 1 - (c.loop-page.page - a.first)) c.requires.first c.requires.at (omega (arith, so_far.from, so_far.end, c.loop-page-test.true)) (omega (arith, so_far.from, so_far.end, c.loop-page-test.true, c.requires.end)) in
    record { page = rw (so_far.step [] 0).framed.same.geometry here.0 }

pub loop-page-preserved : goal.loop-page-preserved
loop-page-preserved g c =
    let so_far = c.loop-page.invariant in
    let a = c.args in
    let q = a.run.end - 1 - (c.loop-page.page - a.first) in
    let here = in_block a.v.now.geometry a.block a.first q c.requires.first c.requires.at (omega (arith, so_far.from, so_far.end, c.loop-page-test.true)) (omega (arith, so_far.from, so_far.end, c.loop-page-test.true, c.requires.end)) in
    record {
      from = omega (arith, so_far.from);
      end = so_far.end;
      few = omega (arith, so_far.few, c.in_ok-left.ensures.few);
      step = λ was most. stepped_then (so_far.step was most) (c.in_ok-left.ensures.step was a.block most a.first a.run)
          (λ tells need. down_begins _ was _ a.block most a.batch a.first a.run _ _ need)
          (λ tells need s. down_on _ was _ a.block most a.batch a.first a.run _ (a.run.end - (c.loop-page.page - a.first)) (a.run.end - (c.loop-page.page + 1 - a.first)) c.loop-page.left q
          (omega (arith, so_far.from, so_far.end, c.loop-page-test.true)) (omega (arith, so_far.from, so_far.end, c.loop-page-test.true)) need s
          (record { at = here.1; from = omega (arith, so_far.from, so_far.end, c.loop-page-test.true); before = omega (arith, so_far.from, so_far.end, c.loop-page-test.true) }));
    }

pub returns-in_err-left-clause-step : goal.returns-in_err-left-clause-step
returns-in_err-left-clause-step g c = λ was most.
    let so_far = c.loop-page.invariant in
    let a = c.args in
    let q = a.run.end - 1 - (c.loop-page.page - a.first) in
    let here = in_block a.v.now.geometry a.block a.first q c.requires.first c.requires.at (omega (arith, so_far.from, so_far.end, c.loop-page-test.true)) (omega (arith, so_far.from, so_far.end, c.loop-page-test.true, c.requires.end)) in
    fails
    (stepped_then (so_far.step was most) (c.in_err-left.ensures.step was a.block most a.first a.run)
    (λ tells need. down_begins _ was _ a.block most a.batch a.first a.run _ _ need)
    (λ tells need s. down_on _ was _ a.block most a.batch a.first a.run _ (a.run.end - (c.loop-page.page - a.first)) (a.run.end - (c.loop-page.page + 1 - a.first)) c.loop-page.left q
    (omega (arith, so_far.from, so_far.end, c.loop-page-test.true)) (omega (arith, so_far.from, so_far.end, c.loop-page-test.true)) need s
    (record { at = here.1; from = omega (arith, so_far.from, so_far.end, c.loop-page-test.true); before = omega (arith, so_far.from, so_far.end, c.loop-page-test.true) })))
    c.from_residual.ensures.0 (λ tells need. down_begin _ was _ a.block most a.batch a.first a.run _ need)

pub returns-clause-step : goal.returns-clause-step
returns-clause-step g c = λ was most.
    let so_far = c.loop-page.invariant in
    let a = c.args in
    ends_as (so_far.step was most) (λ tells need. down_begin _ was _ a.block most a.batch a.first a.run _ need)
    (λ tells need done. λ cs drops is. down_all _ was _ a.block most a.batch a.first a.run _ c.loop-page.left _ (omega (arith, so_far.from, so_far.end, c.loop-page-test.false)) done cs drops is)

pub returns-in_err-left-clause-few : goal.returns-in_err-left-clause-few
returns-in_err-left-clause-few g c = omega (arith, c.loop-page.invariant.few, c.in_err-left.ensures.fails)

pub returns-clause-few : goal.returns-clause-few
returns-clause-few g c = omega (arith, c.loop-page.invariant.few)
