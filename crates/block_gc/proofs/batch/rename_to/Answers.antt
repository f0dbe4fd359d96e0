use Rattle.std.proofs.Common.{arith}
use Rattle.flash_view.proofs.Stepped.{look_fails, after_look}
use Rattle.block_gc.proofs.BatchCalls.{carry_stays}
use Rattle.block_gc.proofs.BatchRenews.{index_live, rename_puts}
use Rattle.block_gc.proofs.batch.rename_to.Goals as goal

pub returns-in_err-build_named-clause-step : goal.returns-in_err-build_named-clause-step
returns-in_err-build_named-clause-step g c = λ was most.
    let seen = c.in_err-build_named.ensures in
    look_fails seen.looks seen.cause c.from_residual.ensures.0 (λ tells need. carry_stays _ was _ c.args.block most c.args.batch need.0 need.1.all.so_far)

pub returns-clause-step : goal.returns-clause-step
returns-clause-step g c = λ was most.
    let a = c.args in
    let seen = c.in_ok-build_named.ensures in
    after_look seen.looks c.put_over.ensures.step (λ tells need. rename_puts _ was _ a.block most a.batch a.first a.to a.run c.build_named.new.v.work.now c.requires.id
    (λ cs can is_run. seen.told tells (index_live _ was _ a.block most a.batch a.first a.to cs can) was most cs (record { so_far = can.all.so_far; run_is = is_run })) need)

pub returns-in_err-build_named-clause-few : goal.returns-in_err-build_named-clause-few
returns-in_err-build_named-clause-few g c = omega (arith, c.build_named.ensures.looks.reads.writes)

pub returns-clause-few : goal.returns-clause-few
returns-clause-few g c = omega (arith, c.build_named.ensures.looks.reads.writes, c.put_over.ensures.few)
