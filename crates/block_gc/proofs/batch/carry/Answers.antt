use Rattle.std.proofs.Common.{◌≡◌, rules, Err, arith}
use Rattle.std.proofs.lemmas.Result.{IfOk-from_err}
use Rattle.flash_view.specs.declared.kinds.StepErr.TheVariants.{DeviceFault}
use Rattle.flash_view.proofs.Stepped.{looked, look_faults, fault_as, passes, ends_as}
use Rattle.block_gc.proofs.BatchPlaces.{carry_found, carry_place}
use Rattle.block_gc.proofs.BatchCalls.{carry_stays, after_looks, carry_begins}
use Rattle.block_gc.proofs.batch.carry.Goals as goal

pub returns-in_err-to-clause-step : goal.returns-in_err-to-clause-step
returns-in_err-to-clause-step g c = λ was most. let seen = c.in_err-to.ensures in look_faults seen.looks.only seen.looks.cause c.from_residual.ensures.0 c.from_residual.ensures.1 (λ tells need. carry_stays _ was _ c.args.block most c.args.batch need.0 need.1.so_far)

pub returns-in_default-clause-step : goal.returns-in_default-clause-step
returns-in_default-clause-step g c = λ was most.
    let seen = c.in_ok-to.ensures in
    let a = c.args in
    looked seen.looks.only (λ e. absurd (cc)) c.no_place.ensures (λ tells need. (
      carry_stays _ was _ a.block most a.batch need.0 need.1.so_far,
      absurd (carry_found _ was _ a.block most a.batch need.0 need.1.so_far a.page a.span need.1 (rw c.in_default.is at (seen.looks.told tells need.1.so_far.carrying.tells))),
    ))

pub returns-in_err-copy_to-clause-step : goal.returns-in_err-copy_to-clause-step
returns-in_err-copy_to-clause-step g c = λ was most.
    let seen = c.in_ok-to.ensures in
    let a = c.args in
    let is : c.from_residual-in_err-copy_to.result ≡ Err DeviceFault = search rules in
    passes (fault_as (after_looks seen.looks.only (c.in_err-copy_to.ensures.step was a.block most))) is
    (λ tells need. carry_begins _ was _ a.block most a.batch a.page c.in-Some.to a.span need
    (λ cs can. carry_place _ was _ a.block most a.batch cs can.so_far a.page a.span can c.in-Some.to (rw c.in-Some.is at (seen.looks.told tells can.so_far.carrying.tells))))

pub returns-clause-step : goal.returns-clause-step
returns-clause-step g c = λ was most.
    let seen = c.in_ok-to.ensures in
    let a = c.args in
    ends_as (after_looks seen.looks.only (c.in_ok-copy_to.ensures.step was a.block most))
    (λ tells need. carry_begins _ was _ a.block most a.batch a.page c.in-Some.to a.span need
    (λ cs can. carry_place _ was _ a.block most a.batch cs can.so_far a.page a.span can c.in-Some.to (rw c.in-Some.is at (seen.looks.told tells can.so_far.carrying.tells))))
    (λ tells need done cs can. done cs (carry_place _ was _ a.block most a.batch cs can.so_far a.page a.span can c.in-Some.to (rw c.in-Some.is at (seen.looks.told tells can.so_far.carrying.tells))))

pub returns-in_err-to-clause-few : goal.returns-in_err-to-clause-few
returns-in_err-to-clause-few g c = IfOk-from_err _ _ c.from_residual.ensures.0

pub returns-in_default-clause-few : goal.returns-in_default-clause-few
returns-in_default-clause-few g c = tt

pub returns-in_err-copy_to-clause-few : goal.returns-in_err-copy_to-clause-few
returns-in_err-copy_to-clause-few g c = IfOk-from_err _ _ c.from_residual-in_err-copy_to.ensures.0

pub returns-clause-few : goal.returns-clause-few
returns-clause-few g c = omega (arith, c.in_ok-to.ensures.looks.only.reads.writes, c.in_ok-copy_to.ensures.few)
