use Rattle.std.proofs.Common.{arith}
use Rattle.flash_view.proofs.Stepped.{looked, look_faults, after_look}
use Rattle.file_write.specs.Appends.{filling_at}
use Rattle.file_write.proofs.AppendEnds.{stays}
use Rattle.file_write.proofs.LastPage.{last_there, fill_at}
use Rattle.file_write.proofs.filling.append_inside.Goals as goal

pub returns-in_err-page-clause-step : goal.returns-in_err-page-clause-step
returns-in_err-page-clause-step g c = λ f. let seen = c.in_err-page.ensures in look_faults seen.looks seen.cause c.from_residual.ensures.0 c.from_residual.ensures.1 (λ tells can. stays _ _ _ _ _ _ _ can)

pub returns-in_default-clause-step : goal.returns-in_default-clause-step
returns-in_default-clause-step g c = λ f.
    let seen = c.in_ok-page.ensures in
    looked seen.looks (λ e. absurd (cc)) c.missing.ensures (λ tells can. (stays _ _ _ _ _ _ _ can, absurd (last_there _ _ _ _ _ _ _ can c.requires.used (rw c.in_default.is at (seen.told tells can.can.tidy can.prime.at)))))

pub returns-clause-step : goal.returns-clause-step
returns-clause-step g c = λ f.
    let seen = c.in_ok-page.ensures in
    after_look {last = filling_at c.args.id c.args.found.header c.args.found.size c.in-Some.page c.args.from.now f} seen.looks (c.fill_last.ensures.step f) (λ tells can. fill_at _ _ _ _ _ _ _ can c.requires.used _ (rw c.in-Some.is at (seen.told tells can.can.tidy can.prime.at)))

pub returns-in_err-page-clause-few : goal.returns-in_err-page-clause-few
returns-in_err-page-clause-few g c = omega (arith, c.in_err-page.ensures.looks.reads.writes)

pub returns-in_default-clause-few : goal.returns-in_default-clause-few
returns-in_default-clause-few g c = omega (arith, c.in_ok-page.ensures.looks.reads.writes)

pub returns-clause-few : goal.returns-clause-few
returns-clause-few g c = omega (arith, c.in_ok-page.ensures.looks.reads.writes, c.fill_last.ensures.few)
