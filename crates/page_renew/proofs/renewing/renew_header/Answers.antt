use Rattle.std.proofs.Common.{refl, arith}
use Rattle.flash_view.proofs.Stepped.{looked, look_faults, after_look}
use Rattle.page_renew.proofs.HeaderRenewed.{edit_stays, no_home, from_home}
use Rattle.page_renew.proofs.renewing.renew_header.Goals as goal

pub returns-in_err-header-clause-step : goal.returns-in_err-header-clause-step
returns-in_err-header-clause-step g c = λ f. let seen = c.in_err-header.ensures in look_faults seen.looks seen.cause c.from_residual.ensures.0 c.from_residual.ensures.1 (λ tells can. edit_stays _ _ _ _ _ can)

pub returns-in-None-clause-step : goal.returns-in-None-clause-step
returns-in-None-clause-step g c = λ f.
    let seen = c.in_ok-header.ensures in
    looked seen.looks (λ e. absurd (cc)) (c.no_page.ensures.apart (λ e. absurd (omega (arith, e)))) (λ tells can. (edit_stays _ _ _ _ _ can, absurd (no_home _ _ _ _ _ can (rw c.in-None.is at (seen.told tells can.tidy)))))

pub returns-in-Some-clause-step : goal.returns-in-Some-clause-step
returns-in-Some-clause-step g c = λ f.
    let seen = c.in_ok-header.ensures in
    after_look seen.looks (c.renew_from.ensures.step f) (λ tells can. from_home _ _ _ _ _ _ can refl (rw c.in-Some.is at (seen.told tells can.tidy)).0)

pub returns-in_err-header-clause-few : goal.returns-in_err-header-clause-few
returns-in_err-header-clause-few g c = omega (arith, c.in_err-header.ensures.looks.reads.writes)

pub returns-in-None-clause-few : goal.returns-in-None-clause-few
returns-in-None-clause-few g c = omega (arith, c.in_ok-header.ensures.looks.reads.writes)

pub returns-in-Some-clause-few : goal.returns-in-Some-clause-few
returns-in-Some-clause-few g c = omega (arith, c.in_ok-header.ensures.looks.reads.writes, c.renew_from.ensures.few)
