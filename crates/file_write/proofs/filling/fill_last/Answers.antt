use Rattle.std.proofs.Common.{◌≡◌, ◌+◌, ◌*◌, ◌%◌, ℕ, get_or, Fits, w8, ap, rules, Err, arith}
use Rattle.std.specs.Prelude.{length}
use Rattle.nor_core.specs.Flash.{HalfProgrammed, programmed}
use Rattle.table_model.specs.Files.{written}
use Rattle.flash_view.specs.declared.kinds.StepErr.TheVariants.{DeviceFault}
use Rattle.flash_view.proofs.Stepped.{made, fault_as, passes, stepped_then, view_image}
use Rattle.page_put.specs.Recount.{IsUsedPage}
use Rattle.file_write.proofs.LastPage.{fill_begins, fill_ends}
use Rattle.file_write.proofs.filling.fill_last.Goals as goal

pub returns-in_err-fill_tail-clause-step : goal.returns-in_err-fill_tail-clause-step
returns-in_err-fill_tail-clause-step g c = λ f.
    let e = c.in_err-fill_tail.ensures in
    let page = c.args.page in
    let place = 5 + c.args.found.size % c.body.result in
    let bytes = c.args.from.now in
    let is : c.from_residual.result ≡ Err DeviceFault = search rules in
    passes (fault_as (made (λ h l. IsUsedPage h l page) (λ h. HalfProgrammed (page * h.page + place) bytes) (λ h b. programmed b (page * h.page + place) bytes) e.same e.wrote e.cause e.changes e.done e.counted)) is
    (λ tells fill. fill_begins c.args.v.now.geometry _ c.args.id c.args.found.header c.args.found.size page place c.args.end bytes f (view_image c.args.v.now (g.met.N.Nor.sized _) tells) fill (ap (λ (n : ℕ). 5 + c.args.found.size % n) c.body.ensures) c.requires.end.0)

pub returns-clause-step : goal.returns-clause-step
returns-clause-step g c = λ f.
    let e = c.in_ok-fill_tail.ensures in
    let page = c.args.page in
    let place = 5 + c.args.found.size % c.body.result in
    let bytes = c.args.from.now in
    stepped_then (made (λ h l. IsUsedPage h l page) (λ h. HalfProgrammed (page * h.page + place) bytes) (λ h b. programmed b (page * h.page + place) bytes) e.same e.wrote e.cause e.changes e.done e.counted) (c.renew_from.ensures.step (written (length f.bytes) bytes f))
    (λ tells fill. fill_begins c.args.v.now.geometry _ c.args.id c.args.found.header c.args.found.size page place c.args.end bytes f (view_image c.args.v.now (g.met.N.Nor.sized _) tells) fill (ap (λ (n : ℕ). 5 + c.args.found.size % n) c.body.ensures) c.requires.end.0)
    (λ tells fill done. fill_ends c.args.v.now.geometry _ c.args.id c.args.found.header c.args.found.size page place c.args.end bytes f (view_image c.args.v.now (g.met.N.Nor.sized _) tells) fill (ap (λ (n : ℕ). 5 + c.args.found.size % n) c.body.ensures) c.requires.end.0 _
    (λ k within. let small : Fits w8 (get_or c.args.from.now k 0) = c.type_inv.from k in omega arith) done)

pub returns-in_err-fill_tail-clause-few : goal.returns-in_err-fill_tail-clause-few
returns-in_err-fill_tail-clause-few g c = omega (arith, c.in_err-fill_tail.ensures.few)

pub returns-clause-few : goal.returns-clause-few
returns-clause-few g c = omega (arith, c.in_ok-fill_tail.ensures.few, c.renew_from.ensures.few)
