use Rattle.std.proofs.Common.{arith}
use Rattle.flash_view.proofs.Stepped.{looked, look_faults, after_look, fault_passes, done_as}
use Rattle.file_write.proofs.IndexNamed.{copy_clear, copy_stays, index_found, index_place}
use Rattle.file_write.proofs.relinking.rename.Goals as goal

pub returns-in_err-at-clause-step : goal.returns-in_err-at-clause-step
returns-in_err-at-clause-step g c = λ was bytes f. let seen = c.in_err-at.ensures in look_faults seen.looks.only seen.looks.cause c.from_residual.ensures.0 c.from_residual.ensures.1 (λ tells has. copy_stays _ was _ _ _ _ _ _ has)

pub returns-in_default-clause-step : goal.returns-in_default-clause-step
returns-in_default-clause-step g c = λ was bytes f.
    let seen = c.in_ok-at.ensures in
    looked seen.looks.only (λ e. absurd (cc)) c.missing.ensures
    (λ tells has. (copy_stays _ was _ _ _ _ _ _ has, absurd (index_found _ was _ _ _ _ _ _ has (rw c.in_default.is at (seen.looks.told tells (copy_clear _ was _ _ _ _ _ _ has).tells)))))

pub returns-in_err-rename_to-clause-step : goal.returns-in_err-rename_to-clause-step
returns-in_err-rename_to-clause-step g c = λ was bytes f.
    let seen = c.in_ok-at.ensures in
    fault_passes
    (after_look seen.looks.only (c.in_err-rename_to.ensures.step was bytes f)
    (λ tells has. record { needs = index_place _ was _ _ _ _ _ _ has c.in-Some.at (rw c.in-Some.is at (seen.looks.told tells (copy_clear _ was _ _ _ _ _ _ has).tells)); cut = λ d cut. cut; done = λ d ok done. done }))
    c.from_residual-in_err-rename_to.ensures.0 c.from_residual-in_err-rename_to.ensures.1

pub returns-clause-step : goal.returns-clause-step
returns-clause-step g c = λ was bytes f.
    let seen = c.in_ok-at.ensures in
    done_as
    (after_look seen.looks.only (c.in_ok-rename_to.ensures.step was bytes f)
    (λ tells has. record { needs = index_place _ was _ _ _ _ _ _ has c.in-Some.at (rw c.in-Some.is at (seen.looks.told tells (copy_clear _ was _ _ _ _ _ _ has).tells)); cut = λ d cut. cut; done = λ d ok done. done }))

pub returns-in_err-at-clause-few : goal.returns-in_err-at-clause-few
returns-in_err-at-clause-few g c = omega (arith, c.in_err-at.ensures.looks.only.reads.writes)

pub returns-in_default-clause-few : goal.returns-in_default-clause-few
returns-in_default-clause-few g c = omega (arith, c.in_ok-at.ensures.looks.only.reads.writes)

pub returns-in_err-rename_to-clause-few : goal.returns-in_err-rename_to-clause-few
returns-in_err-rename_to-clause-few g c = omega (arith, c.in_ok-at.ensures.looks.only.reads.writes, c.in_err-rename_to.ensures.few)

pub returns-clause-few : goal.returns-clause-few
returns-clause-few g c = omega (arith, c.in_ok-at.ensures.looks.only.reads.writes, c.in_ok-rename_to.ensures.few)
