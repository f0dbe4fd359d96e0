use Rattle.std.proofs.Common.{◌≡◌, rules, Err, arith}
use Rattle.flash_view.specs.declared.kinds.StepErr.TheVariants.{DeviceFault}
use Rattle.flash_view.proofs.Stepped.{looked, look_faults, after_look, fault_as, passes, ends_as}
use Rattle.file_write.specs.Relinkings.{copying_at}
use Rattle.file_write.proofs.CopyPut.{patch_stays, patch_clear, copy_found, copy_place}
use Rattle.file_write.proofs.relinking.copy.Goals as goal

pub returns-in_err-to-clause-step : goal.returns-in_err-to-clause-step
returns-in_err-to-clause-step g c = λ f. let seen = c.in_err-to.ensures in look_faults seen.looks.only seen.looks.cause c.from_residual.ensures.0 c.from_residual.ensures.1 (λ tells at. patch_stays _ _ _ _ _ at.can)

pub returns-in_default-clause-step : goal.returns-in_default-clause-step
returns-in_default-clause-step g c = λ f.
    let seen = c.in_ok-to.ensures in
    looked seen.looks.only (λ e. absurd (cc)) c.missing.ensures (λ tells at. (patch_stays _ _ _ _ _ at.can, absurd (copy_found _ _ _ _ _ at.can (rw c.in_default.is at (seen.looks.told tells (patch_clear _ _ _ _ _ at.can).tells)))))

pub returns-in_err-copy_to-clause-step : goal.returns-in_err-copy_to-clause-step
returns-in_err-copy_to-clause-step g c = λ f.
    let seen = c.in_ok-to.ensures in
    let is : c.from_residual-in_err-copy_to.result ≡ Err DeviceFault = search rules in
    after_look {last = copying_at c.args.patch c.args.spot c.in-Some.to c.args.bytes.now f} seen.looks.only
    (passes (fault_as (c.in_err-copy_to.ensures.step f)) is (λ tells need. record { needs = need; cut = λ d cut. cut }))
    (λ tells at. record { needs = copy_place _ _ _ _ _ _ _ at (rw c.in-Some.is at (seen.looks.told tells (patch_clear _ _ _ _ _ at.can).tells)); cut = λ d cut. cut; done = λ d ok done. done })

pub returns-clause-step : goal.returns-clause-step
returns-clause-step g c = λ f.
    let seen = c.in_ok-to.ensures in
    after_look {last = copying_at c.args.patch c.args.spot c.in-Some.to c.args.bytes.now f} seen.looks.only
    (ends_as (c.in_ok-copy_to.ensures.step f) (λ tells need. record { needs = need; cut = λ d cut. cut }) (λ tells need done. done))
    (λ tells at. record { needs = copy_place _ _ _ _ _ _ _ at (rw c.in-Some.is at (seen.looks.told tells (patch_clear _ _ _ _ _ at.can).tells)); cut = λ d cut. cut; done = λ d ok done. done })

pub returns-in_err-to-clause-few : goal.returns-in_err-to-clause-few
returns-in_err-to-clause-few g c = omega (arith, c.in_err-to.ensures.looks.only.reads.writes)

pub returns-in_default-clause-few : goal.returns-in_default-clause-few
returns-in_default-clause-few g c = omega (arith, c.in_ok-to.ensures.looks.only.reads.writes)

pub returns-in_err-copy_to-clause-few : goal.returns-in_err-copy_to-clause-few
returns-in_err-copy_to-clause-few g c = omega (arith, c.in_ok-to.ensures.looks.only.reads.writes, c.in_err-copy_to.ensures.few)

pub returns-clause-few : goal.returns-clause-few
returns-clause-few g c = omega (arith, c.in_ok-to.ensures.looks.only.reads.writes, c.in_ok-copy_to.ensures.few)
