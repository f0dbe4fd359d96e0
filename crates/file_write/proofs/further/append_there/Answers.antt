use Rattle.std.proofs.Common.{◌≡◌, ◌+◌, ◌*◌, rules, Err, arith}
use Rattle.std.specs.Prelude.{length}
use Rattle.std.specs.Int.{to_le_bytes, w16}
use Rattle.nor_core.specs.Flash.{HalfProgrammed, programmed}
use Rattle.image_model.specs.Files.{slot_at}
use Rattle.table_model.specs.Files.{written}
use Rattle.flash_view.specs.declared.kinds.StepErr.TheVariants.{DeviceFault}
use Rattle.flash_view.proofs.Stepped.{made, fault_as, passes, stepped_then, view_image}
use Rattle.page_put.specs.Recount.{IsUsedPage}
use Rattle.file_write.specs.Appends.{naming_data}
use Rattle.file_write.proofs.AfterName.{name_starts, name_goes, name_begins, named_ends}
use Rattle.file_write.proofs.further.append_there.Goals as goal

pub returns-in_err-page-clause-step : goal.returns-in_err-page-clause-step
returns-in_err-page-clause-step g c = λ f.
    let is : c.from_residual.result ≡ Err c.in_err-page.field-0.0 = search rules in
    passes c.in_err-page.ensures.step is
    (λ tells can. let b = name_starts c.args.v.now.geometry _ c.args.id c.args.found.header c.args.found.size c.args.index c.args.span 0 c.args.end c.args.from.now f (view_image c.args.v.now (g.met.N.Nor.sized _) tells) can c.requires.span c.requires.whole c.requires.far c.requires.end.0 in record { needs = b.needs; cut = b.cut })

pub returns-in_err-name_slot-clause-step : goal.returns-in_err-name_slot-clause-step
returns-in_err-name_slot-clause-step g c = λ f.
    let e = c.in_err-name_slot.ensures in
    let w = c.args.index in
    let span = c.args.span in
    let p = c.in_ok-page.page in
    let is : c.from_residual-in_err-name_slot.result ≡ Err DeviceFault = search rules in
    passes
    (stepped_then {whole = naming_data c.args.id c.args.found.header c.args.found.size w span p c.args.from.now f} c.in_ok-page.ensures.step
    (fault_as (made (λ h l. IsUsedPage h l w) (λ h. HalfProgrammed (w * h.page + slot_at h span) (to_le_bytes w16 p)) (λ h b. programmed b (w * h.page + slot_at h span) (to_le_bytes w16 p)) e.same e.wrote e.cause e.changes e.done e.counted))
    (λ tells can. name_starts c.args.v.now.geometry _ c.args.id c.args.found.header c.args.found.size w span p c.args.end c.args.from.now f (view_image c.args.v.now (g.met.N.Nor.sized _) tells) can c.requires.span c.requires.whole c.requires.far c.requires.end.0)
    (λ tells can added. name_goes c.args.v.now.geometry _ c.args.id c.args.found.header c.args.found.size w span p c.args.end c.args.from.now f (view_image c.args.v.now (g.met.N.Nor.sized _) tells) can c.requires.span c.requires.whole c.requires.far c.requires.end.0 _ added))
    is
    (λ tells can. name_begins c.args.v.now.geometry _ c.args.id c.args.found.header c.args.found.size w span p c.args.end c.args.from.now f (view_image c.args.v.now (g.met.N.Nor.sized _) tells) can c.requires.span c.requires.whole c.requires.far c.requires.end.0)

pub returns-clause-step : goal.returns-clause-step
returns-clause-step g c = λ f.
    let e = c.in_ok-name_slot.ensures in
    let w = c.args.index in
    let span = c.args.span in
    let p = c.in_ok-page.page in
    stepped_then
    (stepped_then {whole = naming_data c.args.id c.args.found.header c.args.found.size w span p c.args.from.now f} c.in_ok-page.ensures.step
    (made (λ h l. IsUsedPage h l w) (λ h. HalfProgrammed (w * h.page + slot_at h span) (to_le_bytes w16 p)) (λ h b. programmed b (w * h.page + slot_at h span) (to_le_bytes w16 p)) e.same e.wrote e.cause e.changes e.done e.counted)
    (λ tells can. name_starts c.args.v.now.geometry _ c.args.id c.args.found.header c.args.found.size w span p c.args.end c.args.from.now f (view_image c.args.v.now (g.met.N.Nor.sized _) tells) can c.requires.span c.requires.whole c.requires.far c.requires.end.0)
    (λ tells can added. name_goes c.args.v.now.geometry _ c.args.id c.args.found.header c.args.found.size w span p c.args.end c.args.from.now f (view_image c.args.v.now (g.met.N.Nor.sized _) tells) can c.requires.span c.requires.whole c.requires.far c.requires.end.0 _ added))
    (c.renew_from.ensures.step (written (length f.bytes) c.args.from.now f))
    (λ tells can. name_begins c.args.v.now.geometry _ c.args.id c.args.found.header c.args.found.size w span p c.args.end c.args.from.now f (view_image c.args.v.now (g.met.N.Nor.sized _) tells) can c.requires.span c.requires.whole c.requires.far c.requires.end.0)
    (λ tells can done. named_ends c.args.v.now.geometry _ c.args.id c.args.found.header c.args.found.size w span p c.args.end c.args.from.now f (view_image c.args.v.now (g.met.N.Nor.sized _) tells) can c.requires.span c.requires.whole c.requires.far c.requires.end.0 _ done)

pub returns-in_err-page-clause-few : goal.returns-in_err-page-clause-few
returns-in_err-page-clause-few g c = omega (arith, c.in_err-page.ensures.few)

pub returns-in_err-name_slot-clause-few : goal.returns-in_err-name_slot-clause-few
returns-in_err-name_slot-clause-few g c = omega (arith, c.in_ok-page.ensures.few, c.in_err-name_slot.ensures.few)

pub returns-clause-few : goal.returns-clause-few
returns-clause-few g c = omega (arith, c.in_ok-page.ensures.few, c.in_ok-name_slot.ensures.few, c.renew_from.ensures.few)
