use Rattle.std.proofs.Common.{arith}
use Rattle.room_laws.proofs.Sorted.{tidy_tells_free}
use Rattle.flash_view.proofs.Stepped.{looked, look_faults, after_look, fault_passes, done_as, view_image}
use Rattle.file_write.proofs.Finding.{stays, found_one, by_page}
use Rattle.file_write.proofs.create.create_step.Goals as goal

pub returns-in_err-page-clause-step : goal.returns-in_err-page-clause-step
returns-in_err-page-clause-step g c = let seen = c.in_err-page.ensures in look_faults seen.looks.only seen.looks.cause c.from_residual.ensures.0 c.from_residual.ensures.1 (λ tells can. stays _ _ _ _ can)

pub returns-in_default-clause-step : goal.returns-in_default-clause-step
returns-in_default-clause-step g c =
    let seen = c.in_ok-page.ensures in
    looked seen.looks.only (λ e. absurd (cc)) c.missing.ensures (λ tells can. (stays _ _ _ _ can, absurd (found_one _ _ _ _ can (rw c.in_default.is at (seen.looks.told tells (tidy_tells_free _ _ can.tidy))))))

pub returns-in_err-put_header_page-clause-step : goal.returns-in_err-put_header_page-clause-step
returns-in_err-put_header_page-clause-step g c =
    let seen = c.in_ok-page.ensures in
    fault_passes (after_look seen.looks.only c.in_err-put_header_page.ensures.step (λ tells can. by_page _ _ _ _ _ (view_image c.args.v.now (g.met.N.Nor.sized _) tells) can (rw c.in-Some.is at (seen.looks.told tells (tidy_tells_free _ _ can.tidy))))) c.from_residual-in_err-put_header_page.ensures.0 c.from_residual-in_err-put_header_page.ensures.1

pub returns-clause-step : goal.returns-clause-step
returns-clause-step g c =
    let seen = c.in_ok-page.ensures in
    done_as (after_look seen.looks.only c.in_ok-put_header_page.ensures.step (λ tells can. by_page _ _ _ _ _ (view_image c.args.v.now (g.met.N.Nor.sized _) tells) can (rw c.in-Some.is at (seen.looks.told tells (tidy_tells_free _ _ can.tidy)))))

pub returns-in_err-page-clause-few : goal.returns-in_err-page-clause-few
returns-in_err-page-clause-few g c = omega (arith, c.in_err-page.ensures.looks.only.reads.writes)

pub returns-in_default-clause-few : goal.returns-in_default-clause-few
returns-in_default-clause-few g c = omega (arith, c.in_ok-page.ensures.looks.only.reads.writes)

pub returns-in_err-put_header_page-clause-few : goal.returns-in_err-put_header_page-clause-few
returns-in_err-put_header_page-clause-few g c = omega (arith, c.in_ok-page.ensures.looks.only.reads.writes, c.in_err-put_header_page.ensures.few)

pub returns-clause-few : goal.returns-clause-few
returns-clause-few g c = omega (arith, c.in_ok-page.ensures.looks.only.reads.writes, c.in_ok-put_header_page.ensures.few)
