use Rattle.std.proofs.Common.{arith}
use Rattle.flash_view.proofs.Stepped.{looked, look_faults, after_look}
use Rattle.file_write.proofs.CopyPut.{patch_stays}
use Rattle.file_write.proofs.FileHomes.{primed_tidy}
use Rattle.file_write.proofs.OldDropped.{no_spot, spot_at}
use Rattle.file_write.proofs.relinking.replace_page.Goals as goal

pub returns-in_err-spot-clause-step : goal.returns-in_err-spot-clause-step
returns-in_err-spot-clause-step g c = λ f. let seen = c.in_err-spot.ensures in look_faults seen.looks seen.cause c.from_residual.ensures.0 c.from_residual.ensures.1 (λ tells can. patch_stays _ _ _ _ _ can)

pub returns-in_default-clause-step : goal.returns-in_default-clause-step
returns-in_default-clause-step g c = λ f.
    let seen = c.in_ok-spot.ensures in
    looked seen.looks (λ e. absurd (cc)) c.missing.ensures (λ tells can. (patch_stays _ _ _ _ _ can, absurd (no_spot _ _ c.args.patch _ _ can (rw c.in_default.is at (seen.told tells (primed_tidy _ _ _ _ _ _ can.prime))))))

pub returns-clause-step : goal.returns-clause-step
returns-clause-step g c = λ f.
    let seen = c.in_ok-spot.ensures in
    after_look seen.looks (c.replace_at.ensures.step f) (λ tells can. spot_at _ _ c.args.patch _ _ can c.in-Some.spot (rw c.in-Some.is at (seen.told tells (primed_tidy _ _ _ _ _ _ can.prime))))

pub returns-in_err-spot-clause-few : goal.returns-in_err-spot-clause-few
returns-in_err-spot-clause-few g c = omega (arith, c.in_err-spot.ensures.looks.reads.writes)

pub returns-in_default-clause-few : goal.returns-in_default-clause-few
returns-in_default-clause-few g c = omega (arith, c.in_ok-spot.ensures.looks.reads.writes)

pub returns-clause-few : goal.returns-clause-few
returns-clause-few g c = omega (arith, c.in_ok-spot.ensures.looks.reads.writes, c.replace_at.ensures.few)
