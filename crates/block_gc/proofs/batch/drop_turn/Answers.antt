use Rattle.std.proofs.Common.{arith}
use Rattle.flash_view.proofs.Looking.{looks_none}
use Rattle.flash_view.proofs.Stepped.{looked, look_fails, fails, ends_as}
use Rattle.block_gc.proofs.BatchCalls.{after_looks}
use Rattle.block_gc.proofs.BatchDrops.{drops_stay, drop_none, drop_idle, drop_begins, drop_ends}
use Rattle.block_gc.proofs.batch.drop_turn.Goals as goal

pub returns-then-left-eq0-clause-step : goal.returns-then-left-eq0-clause-step
returns-then-left-eq0-clause-step g c = λ was block most first run.
    let a = c.args in
    looked (looks_none a.v.now) (λ e. absurd (cc)) tt (λ tells need. (drops_stay _ was _ block most first _ need.0.1.drops, λ cs to. drop_none _ was _ block most a.batch first run a.page a.left c.if-left-eq0.true cs to))

pub returns-in_err-_span-clause-step : goal.returns-in_err-_span-clause-step
returns-in_err-_span-clause-step g c = λ was block most first run. let seen = c.in_err-_span.ensures in look_fails seen.looks seen.cause c.from_residual.ensures.0 (λ tells need. drops_stay _ was _ block most first _ need.0.1.drops)

pub returns-in_default-clause-step : goal.returns-in_default-clause-step
returns-in_default-clause-step g c = λ was block most first run.
    let a = c.args in
    let seen = c.in_ok-_span.ensures in
    looked seen.looks (λ e. absurd (cc)) tt (λ tells need. (
      drops_stay _ was _ block most first _ need.0.1.drops,
      λ cs to. drop_idle _ was _ block most a.batch first run a.page a.left (rw c.in_default.is at (seen.told tells)) cs to,
    ))

pub returns-in_err-kill-clause-step : goal.returns-in_err-kill-clause-step
returns-in_err-kill-clause-step g c = λ was block most first run.
    let a = c.args in
    let seen = c.in_ok-_span.ensures in
    fails (after_looks seen.looks c.in_err-kill.ensures.live) c.from_residual-in_err-kill.ensures.0
    (λ tells need. drop_begins _ was _ block most a.batch first run a.page a.left need.1 c.in-Some._span (rw c.in-Some.is at (seen.told tells)) need.0)

pub returns-clause-step : goal.returns-clause-step
returns-clause-step g c = λ was block most first run.
    let a = c.args in
    let seen = c.in_ok-_span.ensures in
    ends_as (after_looks seen.looks c.in_ok-kill.ensures.live)
    (λ tells need. drop_begins _ was _ block most a.batch first run a.page a.left need.1 c.in-Some._span (rw c.in-Some.is at (seen.told tells)) need.0)
    (λ tells need kill. λ cs to. drop_ends _ was _ block most a.batch first run a.page a.left need.1 c.in-Some._span (rw c.in-Some.is at (seen.told tells)) _ _ (omega (arith, c.if-left-eq0.false)) kill cs to)

pub returns-then-left-eq0-clause-few : goal.returns-then-left-eq0-clause-few
returns-then-left-eq0-clause-few g c = omega arith

pub returns-then-left-eq0-clause-fails : goal.returns-then-left-eq0-clause-fails
returns-then-left-eq0-clause-fails g c = omega arith

pub returns-in_err-_span-clause-fails : goal.returns-in_err-_span-clause-fails
returns-in_err-_span-clause-fails g c = omega (arith, c.in_err-_span.ensures.looks.reads.writes)

pub returns-in_default-clause-few : goal.returns-in_default-clause-few
returns-in_default-clause-few g c = omega (arith, c.in_ok-_span.ensures.looks.reads.writes)

pub returns-in_default-clause-fails : goal.returns-in_default-clause-fails
returns-in_default-clause-fails g c = omega (arith, c.in_ok-_span.ensures.looks.reads.writes)

pub returns-in_err-kill-clause-fails : goal.returns-in_err-kill-clause-fails
returns-in_err-kill-clause-fails g c = omega (arith, c.in_ok-_span.ensures.looks.reads.writes, c.in_err-kill.ensures.few, c.if-left-eq0.false)

pub returns-clause-few : goal.returns-clause-few
returns-clause-few g c = omega (arith, c.in_ok-_span.ensures.looks.reads.writes, c.in_ok-kill.ensures.few, c.if-left-eq0.false)

pub returns-clause-fails : goal.returns-clause-fails
returns-clause-fails g c = omega (arith, c.in_ok-_span.ensures.looks.reads.writes, c.in_ok-kill.ensures.few, c.if-left-eq0.false)
