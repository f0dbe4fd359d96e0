use Rattle.std.proofs.Common.{rules, arith}
use Rattle.flash_view.proofs.Stepped.{looked, rebuilt, weaker}
use Rattle.file_write.proofs.BytesOver.{over_stays, no_patch, patches}
use Rattle.file_write.proofs.overwriting.overwrite_in.Goals as goal

pub returns-in-None-clause-step : goal.returns-in-None-clause-step
returns-in-None-clause-step g c = λ f.
    looked (rebuilt (search rules)) (λ e. absurd (cc)) c.missing.ensures
    (λ tells can. (over_stays _ _ _ _ _ _ can.can, absurd (no_patch _ _ _ _ _ _ _ can (rw c.in-None.is at c.patch_at.ensures.told))))

pub returns-in-Some-clause-step : goal.returns-in-Some-clause-step
returns-in-Some-clause-step g c = λ f.
    let patch = c.in-Some.patch in
    weaker (c.replace_page.ensures.step f) (λ tells can. patches _ _ _ _ _ _ _ can patch (rw c.in-Some.is at c.patch_at.ensures.id) (rw c.in-Some.is at c.patch_at.ensures.told))

pub returns-in-None-clause-few : goal.returns-in-None-clause-few
returns-in-None-clause-few g c = omega arith

pub returns-in-Some-clause-few : goal.returns-in-Some-clause-few
returns-in-Some-clause-few g c = omega (arith, c.replace_page.ensures.few)
