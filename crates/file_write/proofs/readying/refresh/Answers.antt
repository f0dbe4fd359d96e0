use Rattle.std.proofs.Common.{arith}
use Rattle.flash_view.proofs.Stepped.{looked, look_faults, after_look, fault_passes, done_as}
use Rattle.file_write.proofs.BytesReadied.{ready_stays}
use Rattle.file_write.proofs.IndexRefreshed.{refresh_clear, place_found, refresh_place}
use Rattle.file_write.proofs.readying.refresh.Goals as goal

pub returns-in_err-to-clause-step : goal.returns-in_err-to-clause-step
returns-in_err-to-clause-step g c = λ size f. let seen = c.in_err-to.ensures in look_faults seen.looks.only seen.looks.cause c.from_residual.ensures.0 c.from_residual.ensures.1 (λ tells can. ready_stays _ _ _ can.at.at.can)

pub returns-in_default-clause-step : goal.returns-in_default-clause-step
returns-in_default-clause-step g c = λ size f.
    let seen = c.in_ok-to.ensures in
    looked seen.looks.only (λ e. absurd (cc)) c.missing.ensures
    (λ tells can. (ready_stays _ _ _ can.at.at.can, absurd (place_found _ _ _ size _ f can (rw c.in_default.is at (seen.looks.told tells (refresh_clear _ _ _ size _ f can).tells)))))

pub returns-in_err-refresh_to-clause-step : goal.returns-in_err-refresh_to-clause-step
returns-in_err-refresh_to-clause-step g c = λ size f.
    let seen = c.in_ok-to.ensures in
    fault_passes
    (after_look seen.looks.only (c.in_err-refresh_to.ensures.step size f)
    (λ tells can. refresh_place _ _ _ size _ f can c.in-Some.to (rw c.in-Some.is at (seen.looks.told tells (refresh_clear _ _ _ size _ f can).tells))))
    c.from_residual-in_err-refresh_to.ensures.0 c.from_residual-in_err-refresh_to.ensures.1

pub returns-clause-step : goal.returns-clause-step
returns-clause-step g c = λ size f.
    let seen = c.in_ok-to.ensures in
    done_as
    (after_look seen.looks.only (c.in_ok-refresh_to.ensures.step size f)
    (λ tells can. refresh_place _ _ _ size _ f can c.in-Some.to (rw c.in-Some.is at (seen.looks.told tells (refresh_clear _ _ _ size _ f can).tells))))

pub returns-in_err-to-clause-few : goal.returns-in_err-to-clause-few
returns-in_err-to-clause-few g c = omega (arith, c.in_err-to.ensures.looks.only.reads.writes)

pub returns-in_default-clause-few : goal.returns-in_default-clause-few
returns-in_default-clause-few g c = omega (arith, c.in_ok-to.ensures.looks.only.reads.writes)

pub returns-in_err-refresh_to-clause-few : goal.returns-in_err-refresh_to-clause-few
returns-in_err-refresh_to-clause-few g c = omega (arith, c.in_ok-to.ensures.looks.only.reads.writes, c.in_err-refresh_to.ensures.few)

pub returns-clause-few : goal.returns-clause-few
returns-clause-few g c = omega (arith, c.in_ok-to.ensures.looks.only.reads.writes, c.in_ok-refresh_to.ensures.few)
