use Rattle.std.proofs.Common.{refl, arith}
use Rattle.flash_view.proofs.Stepped.{looked, look_faults, after_look, fault_passes, done_as, view_image}
use Rattle.page_renew.specs.Renewals.{renewing_at}
use Rattle.page_renew.proofs.HeaderRenewed.{at_stays, at_tells, found_one, by_place}
use Rattle.page_renew.proofs.renewing.renew_from.Goals as goal

pub returns-in_err-to-clause-step : goal.returns-in_err-to-clause-step
returns-in_err-to-clause-step g c = λ f. let seen = c.in_err-to.ensures in look_faults seen.looks.only seen.looks.cause c.from_residual.ensures.0 c.from_residual.ensures.1 (λ tells can. at_stays _ _ _ _ _ _ can)

pub returns-in_default-clause-step : goal.returns-in_default-clause-step
returns-in_default-clause-step g c = λ f.
    let seen = c.in_ok-to.ensures in
    looked seen.looks.only (λ e. absurd (cc)) (c.no_page.ensures.apart (λ e. absurd (omega (arith, e)))) (λ tells can. (at_stays _ _ _ _ _ _ can, absurd (found_one _ _ _ _ _ _ can (rw c.in_default.is at (seen.looks.told tells (at_tells _ _ _ _ _ _ can))))))

pub returns-in_err-renew_at-clause-step : goal.returns-in_err-renew_at-clause-step
returns-in_err-renew_at-clause-step g c = λ f.
    let seen = c.in_ok-to.ensures in
    fault_passes (after_look {last = renewing_at c.args.id c.args.header c.in-Some.to c.args.edit f} seen.looks.only (c.in_err-renew_at.ensures.step f) (λ tells can. by_place _ _ _ _ _ _ _ (view_image c.args.v.now (g.met.N.Nor.sized _) tells) can (rw c.in-Some.is at (seen.looks.told tells (at_tells _ _ _ _ _ _ can))))) c.from_residual-in_err-renew_at.ensures.0 c.from_residual-in_err-renew_at.ensures.1

pub returns-clause-step : goal.returns-clause-step
returns-clause-step g c = λ f.
    let seen = c.in_ok-to.ensures in
    done_as (after_look {last = renewing_at c.args.id c.args.header c.in-Some.to c.args.edit f} seen.looks.only (c.in_ok-renew_at.ensures.step f) (λ tells can. by_place _ _ _ _ _ _ _ (view_image c.args.v.now (g.met.N.Nor.sized _) tells) can (rw c.in-Some.is at (seen.looks.told tells (at_tells _ _ _ _ _ _ can)))))

pub returns-in_err-to-clause-few : goal.returns-in_err-to-clause-few
returns-in_err-to-clause-few g c = omega (arith, c.in_err-to.ensures.looks.only.reads.writes)

pub returns-in_default-clause-few : goal.returns-in_default-clause-few
returns-in_default-clause-few g c = omega (arith, c.in_ok-to.ensures.looks.only.reads.writes)

pub returns-in_err-renew_at-clause-few : goal.returns-in_err-renew_at-clause-few
returns-in_err-renew_at-clause-few g c = omega (arith, c.in_ok-to.ensures.looks.only.reads.writes, c.in_err-renew_at.ensures.few)

pub returns-clause-few : goal.returns-clause-few
returns-clause-few g c = omega (arith, c.in_ok-to.ensures.looks.only.reads.writes, c.in_ok-renew_at.ensures.few)
