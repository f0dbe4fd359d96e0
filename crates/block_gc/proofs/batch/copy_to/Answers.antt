use Rattle.std.proofs.Common.{arith}
use Rattle.flash_view.proofs.Stepped.{look_fails, after_look}
use Rattle.block_gc.proofs.BatchCalls.{carry_stays}
use Rattle.block_gc.proofs.batch.copy_to.Goals as goal

pub returns-in_err-build_data-clause-step : goal.returns-in_err-build_data-clause-step
returns-in_err-build_data-clause-step g c = λ was block most. let seen = c.in_err-build_data.ensures in look_fails seen.looks seen.cause c.from_residual.ensures.0 (λ tells need. carry_stays _ was _ block most c.args.batch need.0 need.1.can.so_far)

pub returns-clause-step : goal.returns-clause-step
returns-clause-step g c = λ was block most. after_look c.in_ok-build_data.ensures.looks (c.put_copy.ensures.step was block most) (λ tells need. record { needs = need; cut = λ d cut. cut; done = λ d ok done. done })

pub returns-in_err-build_data-clause-few : goal.returns-in_err-build_data-clause-few
returns-in_err-build_data-clause-few g c = omega (arith, c.build_data.ensures.looks.reads.writes)

pub returns-clause-few : goal.returns-clause-few
returns-clause-few g c = omega (arith, c.build_data.ensures.looks.reads.writes, c.put_copy.ensures.few)
