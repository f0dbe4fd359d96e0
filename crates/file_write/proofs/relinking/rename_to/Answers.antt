use Rattle.std.proofs.Common.{◌∙◌, ap, arith}
use Rattle.geometry.specs.declared.geometry.Geometry.{Geometry}
use Rattle.flash_view.proofs.Stepped.{look_fails, after_look}
use Rattle.image_model.specs.Files.{index_span}
use Rattle.page_renew.specs.Renewals.{replacing}
use Rattle.file_write.proofs.IndexNamed.{copy_stays, index_live, index_puts}
use Rattle.file_write.proofs.relinking.rename_to.Goals as goal

pub returns-in_err-build_renamed-clause-step : goal.returns-in_err-build_renamed-clause-step
returns-in_err-build_renamed-clause-step g c = λ was bytes f. let seen = c.in_err-build_renamed.ensures in look_fails seen.looks seen.cause c.from_residual.ensures.0 (λ tells can. copy_stays _ was _ c.args.patch c.args.spot c.args.to bytes f can.has)

pub returns-clause-step : goal.returns-clause-step
returns-clause-step g c = λ was bytes f.
    let seen = c.in_ok-build_renamed.ensures in
    let a = c.args in
    after_look {last = replacing a.at a.spot.index (record { id = a.patch.id; span = c.index_span.result }) c.build_renamed.new.v.work.now} seen.looks c.put_over.ensures.step
    (λ tells can. index_puts _ was _ a.patch a.spot a.to a.at bytes f can c.requires.id c.index_span.result
    (c.index_span.ensures ∙ ap (λ (x : Geometry). index_span x a.patch.span) seen.looks.same.geometry) _ (seen.told tells (index_live _ was _ a.patch a.spot a.to bytes f can.has)))

pub returns-in_err-build_renamed-clause-few : goal.returns-in_err-build_renamed-clause-few
returns-in_err-build_renamed-clause-few g c = omega (arith, c.in_err-build_renamed.ensures.looks.reads.writes)

pub returns-clause-few : goal.returns-clause-few
returns-clause-few g c = omega (arith, c.in_ok-build_renamed.ensures.looks.reads.writes, c.put_over.ensures.few)
