use Rattle.std.proofs.Common.{arith}
use Rattle.flash_view.specs.declared.kinds.Kind.TheVariants.{Data}
use Rattle.flash_view.proofs.Stepped.{look_fails, after_look, view_image}
use Rattle.page_put.specs.LivePages.{putting}
use Rattle.file_write.proofs.CopyPut.{patch_stays, copy_puts}
use Rattle.file_write.proofs.relinking.copy_to.Goals as goal

pub returns-in_err-build_patched-clause-step : goal.returns-in_err-build_patched-clause-step
returns-in_err-build_patched-clause-step g c = λ f. let seen = c.in_err-build_patched.ensures in look_fails seen.looks seen.cause c.from_residual.ensures.0 (λ tells can. patch_stays _ _ _ _ _ can.at.can)

pub returns-clause-step : goal.returns-clause-step
returns-clause-step g c = λ f.
    let seen = c.in_ok-build_patched.ensures in
    let a = c.args in
    after_look {last = putting a.to Data (record { id = a.patch.id; span = a.patch.span }) c.build_patched.new.v.work.now} seen.looks c.put_page.ensures.step
    (λ tells can. copy_puts _ _ a.patch a.spot a.to a.bytes.now f _ (view_image a.v.now (g.met.N.Nor.sized _) tells) can (seen.told tells) c.requires.id)

pub returns-in_err-build_patched-clause-few : goal.returns-in_err-build_patched-clause-few
returns-in_err-build_patched-clause-few g c = omega (arith, c.in_err-build_patched.ensures.looks.reads.writes)

pub returns-clause-few : goal.returns-clause-few
returns-clause-few g c = omega (arith, c.in_ok-build_patched.ensures.looks.reads.writes, c.put_page.ensures.few)
