use Rattle.std.proofs.Common.{arith}
use Rattle.flash_view.proofs.Stepped.{looked, look_faults, after_look, fault_passes, done_as}
use Rattle.block_gc.proofs.BatchPlaces.{rename_found, rename_place}
use Rattle.block_gc.proofs.BatchCalls.{carry_stays}
use Rattle.block_gc.proofs.BatchEnds.{rename_on}
use Rattle.block_gc.proofs.batch.rename.Goals as goal

pub returns-in_err-to-clause-step : goal.returns-in_err-to-clause-step
returns-in_err-to-clause-step g c = λ was most. let seen = c.in_err-to.ensures in look_faults seen.looks.only seen.looks.cause c.from_residual.ensures.0 c.from_residual.ensures.1 (λ tells need. carry_stays _ was _ c.args.block most c.args.batch need.0 need.1.all.so_far)

pub returns-in_default-clause-step : goal.returns-in_default-clause-step
returns-in_default-clause-step g c = λ was most.
    let seen = c.in_ok-to.ensures in
    let a = c.args in
    looked seen.looks.only (λ e. absurd (cc)) c.no_place.ensures (λ tells need. (
      carry_stays _ was _ a.block most a.batch need.0 need.1.all.so_far,
      absurd (rename_found _ was _ a.block most a.batch need.0 need.1.all.so_far a.first need.1.all (rw c.in_default.is at (seen.looks.told tells need.1.all.so_far.carrying.tells))),
    ))

pub returns-in_err-rename_to-clause-step : goal.returns-in_err-rename_to-clause-step
returns-in_err-rename_to-clause-step g c = λ was most.
    let seen = c.in_ok-to.ensures in
    let a = c.args in
    fault_passes
    (after_look seen.looks.only (c.in_err-rename_to.ensures.step was most)
    (λ tells need. rename_on _ was _ a.block most a.batch a.first c.in-Some.to a.run
    (λ cs ends. rename_place _ was _ a.block most a.batch cs ends.all.so_far a.first ends.all c.in-Some.to (rw c.in-Some.is at (seen.looks.told tells ends.all.so_far.carrying.tells))) need))
    c.from_residual-in_err-rename_to.ensures.0 c.from_residual-in_err-rename_to.ensures.1

pub returns-clause-step : goal.returns-clause-step
returns-clause-step g c = λ was most.
    let seen = c.in_ok-to.ensures in
    let a = c.args in
    done_as
    (after_look seen.looks.only (c.in_ok-rename_to.ensures.step was most)
    (λ tells need. rename_on _ was _ a.block most a.batch a.first c.in-Some.to a.run
    (λ cs ends. rename_place _ was _ a.block most a.batch cs ends.all.so_far a.first ends.all c.in-Some.to (rw c.in-Some.is at (seen.looks.told tells ends.all.so_far.carrying.tells))) need))

pub returns-in_err-to-clause-few : goal.returns-in_err-to-clause-few
returns-in_err-to-clause-few g c = omega (arith, c.in_err-to.ensures.looks.only.reads.writes)

pub returns-in_default-clause-few : goal.returns-in_default-clause-few
returns-in_default-clause-few g c = omega (arith, c.in_ok-to.ensures.looks.only.reads.writes)

pub returns-in_err-rename_to-clause-few : goal.returns-in_err-rename_to-clause-few
returns-in_err-rename_to-clause-few g c = omega (arith, c.in_ok-to.ensures.looks.only.reads.writes, c.in_err-rename_to.ensures.few)

pub returns-clause-few : goal.returns-clause-few
returns-clause-few g c = omega (arith, c.in_ok-to.ensures.looks.only.reads.writes, c.in_ok-rename_to.ensures.few)
