use Rattle.std.proofs.Common.{arith}
use Rattle.flash_view.proofs.Stepped.{look_fails, after_look}
use Rattle.page_renew.specs.Renewals.{replacing}
use Rattle.file_write.proofs.BytesReadied.{ready_stays}
use Rattle.file_write.proofs.IndexRefreshed.{refresh_live, refresh_puts}
use Rattle.file_write.proofs.readying.refresh_to.Goals as goal

pub returns-in_err-copied-clause-step : goal.returns-in_err-copied-clause-step
returns-in_err-copied-clause-step g c = λ size f. let seen = c.in_err-copied.ensures in look_fails seen.looks seen.cause c.from_residual.ensures.0 (λ tells can. ready_stays _ _ _ can.can.at.at.can)

pub returns-clause-step : goal.returns-clause-step
returns-clause-step g c = λ size f.
    let seen = c.in_ok-copied.ensures in
    let a = c.args in
    after_look {last = replacing a.to a.index (record { id = a.id; span = c.in_ok-copied.copied.span }) c.build_copy.new.v.work.now} seen.looks c.put_over.ensures.step
    (λ tells can. refresh_puts _ _ a.id size a.index a.to f can c.requires.id c.in_ok-copied.copied _ (seen.told tells (refresh_live _ _ a.id size a.index f can.can)))

pub returns-in_err-copied-clause-few : goal.returns-in_err-copied-clause-few
returns-in_err-copied-clause-few g c = omega (arith, c.in_err-copied.ensures.looks.reads.writes)

pub returns-clause-few : goal.returns-clause-few
returns-clause-few g c = omega (arith, c.in_ok-copied.ensures.looks.reads.writes, c.put_over.ensures.few)
