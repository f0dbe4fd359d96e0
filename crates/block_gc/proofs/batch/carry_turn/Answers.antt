use Rattle.std.proofs.Common.{◌≡◌, arith, inr, rules, Err}
use Rattle.flash_view.proofs.Looking.{looks_none}
use Rattle.flash_view.proofs.Stepped.{looked, look_faults, passes, ends_as}
use Rattle.block_gc.proofs.BatchCalls.{carry_stays, after_looks, turn_idle, turn_begins, turn_ends, of_still}
use Rattle.block_gc.proofs.BatchRuns.{page_few}
use Rattle.block_gc.proofs.batch.carry_turn.Goals as goal

pub with_one-requires-clause-page : goal.with_one-requires-clause-page
with_one-requires-clause-page g c = page_few c.args.v.now.geometry c.args.page c.requires.page.below

pub returns-then-run-most-clause-step : goal.returns-then-run-most-clause-step
returns-then-run-most-clause-step g c = λ was first.
    let a = c.args in
    looked (looks_none a.v.now) (λ e. absurd (cc)) tt (λ tells need. (
      carry_stays _ was _ a.block a.most a.batch need.0.0 need.0.1.copies.so_far,
      (need.0.0, turn_idle _ was _ a.block a.most a.batch first a.page a.run need.0.0 (λ span here of. let many = need.0.1.copies.run_is.many in inr (omega (arith, many, c.if-run-most.true))) need.0.1),
    ))

pub returns-in_err-span-clause-step : goal.returns-in_err-span-clause-step
returns-in_err-span-clause-step g c = λ was first.
    let seen = c.in_err-span.ensures in
    look_faults seen.looks seen.cause c.from_residual.ensures.0 c.from_residual.ensures.1 (λ tells need. carry_stays _ was _ c.args.block c.args.most c.args.batch need.0.0 need.0.1.copies.so_far)

pub returns-in_default-clause-step : goal.returns-in_default-clause-step
returns-in_default-clause-step g c = λ was first.
    let a = c.args in
    let seen = c.in_ok-span.ensures in
    looked seen.looks (λ e. absurd (cc)) tt (λ tells need. (
      carry_stays _ was _ a.block a.most a.batch need.0.0 need.0.1.copies.so_far,
      (
        need.0.0,
        turn_idle _ was _ a.block a.most a.batch first a.page a.run need.0.0
            (λ span here of. absurd (rw c.in_default.is at (seen.told tells) span (of_still _ was _ a.block a.most a.batch need.0.0 need.0.1.copies.so_far a.page span of))) need.0.1,
      ),
    ))

pub returns-in_err-to-clause-step : goal.returns-in_err-to-clause-step
returns-in_err-to-clause-step g c = λ was first.
    let a = c.args in
    let seen = c.in_ok-span.ensures in
    let is : c.from_residual-in_err-to.result ≡ Err c.in_err-to.field-0.0 = search rules in
    passes (after_looks seen.looks (c.in_err-to.ensures.step was a.most)) is
    (λ tells need. turn_begins _ was _ a.block a.most a.batch first a.page a.run c.requires.end need (omega (arith, c.if-run-most.false)) c.in-Some.span (rw c.in-Some.is at (seen.told tells)))

pub returns-clause-step : goal.returns-clause-step
returns-clause-step g c = λ was first.
    let a = c.args in
    let seen = c.in_ok-span.ensures in
    ends_as (after_looks seen.looks (c.in_ok-to.ensures.step was a.most))
    (λ tells need. turn_begins _ was _ a.block a.most a.batch first a.page a.run c.requires.end need (omega (arith, c.if-run-most.false)) c.in-Some.span (rw c.in-Some.is at (seen.told tells)))
    (λ tells need done. turn_ends _ was _ a.block a.most a.batch first a.page a.run c.requires.end need (omega (arith, c.if-run-most.false)) c.in-Some.span (rw c.in-Some.is at (seen.told tells))
    _ _ c.with_one.result c.with_one.ensures.end c.with_one.ensures.count done)

pub returns-then-run-most-clause-few : goal.returns-then-run-most-clause-few
returns-then-run-most-clause-few g c = omega arith

pub returns-in_default-clause-few : goal.returns-in_default-clause-few
returns-in_default-clause-few g c = omega (arith, c.in_ok-span.ensures.looks.reads.writes)

pub returns-clause-few : goal.returns-clause-few
returns-clause-few g c = omega (arith, c.in_ok-span.ensures.looks.reads.writes, c.in_ok-to.ensures.few, c.with_one.ensures.count)
