use Rattle.std.proofs.Common.{arith}
use Rattle.flash_view.proofs.Stepped.{look_fails, after_look, view_image}
use Rattle.page_renew.specs.Renewals.{replacing}
use Rattle.page_renew.proofs.HeaderRenewed.{renew_stays, renews}
use Rattle.page_renew.proofs.renewing.renew_at.Goals as goal

pub returns-in_err-build_edited-clause-step : goal.returns-in_err-build_edited-clause-step
returns-in_err-build_edited-clause-step g c = λ f. let seen = c.in_err-build_edited.ensures in look_fails seen.looks seen.cause c.from_residual.ensures.0 (λ tells can. renew_stays _ _ _ _ _ _ _ can)

pub returns-clause-step : goal.returns-clause-step
returns-clause-step g c = λ f.
    let seen = c.in_ok-build_edited.ensures in
    after_look {last = replacing c.args.to c.args.header (record { id = c.args.id; span = 0 }) c.build_edited.new.v.work.now} seen.looks c.put_over.ensures.step (λ tells can. renews _ _ _ _ _ _ _ _ (view_image c.args.v.now (g.met.N.Nor.sized _) tells) c.requires.id can (seen.told tells))

pub returns-in_err-build_edited-clause-few : goal.returns-in_err-build_edited-clause-few
returns-in_err-build_edited-clause-few g c = omega (arith, c.build_edited.ensures.looks.reads.writes)

pub returns-clause-few : goal.returns-clause-few
returns-clause-few g c = omega (arith, c.build_edited.ensures.looks.reads.writes, c.put_over.ensures.few)
