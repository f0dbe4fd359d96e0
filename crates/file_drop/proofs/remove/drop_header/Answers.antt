use Rattle.std.proofs.Common.{◌+◌, ◌*◌, [], ◌∷◌, arith}
use Rattle.nor_core.specs.Flash.{HalfProgrammed, programmed}
use Rattle.flash_view.proofs.Stepped.{made, fails, stepped_then, view_image}
use Rattle.page_put.specs.Recount.{IsUsedPage}
use Rattle.file_drop.proofs.Marking.{marks, clears_header}
use Rattle.file_drop.proofs.remove.drop_header.Goals as goal

pub returns-in_err-mark_removed-clause-step : goal.returns-in_err-mark_removed-clause-step
returns-in_err-mark_removed-clause-step g c =
    let page = c.args.header in
    let first = c.in_err-mark_removed.ensures in
    fails (made (λ h l. IsUsedPage h l page) (λ h. HalfProgrammed (page * h.page + 4) (0xBF ∷ [])) (λ h b. programmed b (page * h.page + 4) (0xBF ∷ [])) first.same first.wrote first.cause first.changes first.done first.counted) c.from_residual.ensures.0
    (λ tells can. marks _ _ _ page (view_image c.args.v.now (g.met.N.Nor.sized _) tells) can)

pub returns-clause-step : goal.returns-clause-step
returns-clause-step g c =
    let page = c.args.header in
    let first = c.in_ok-mark_removed.ensures in
    stepped_then (made (λ h l. IsUsedPage h l page) (λ h. HalfProgrammed (page * h.page + 4) (0xBF ∷ [])) (λ h b. programmed b (page * h.page + 4) (0xBF ∷ [])) first.same first.wrote first.cause first.changes first.done first.counted) c.kill.ensures.dead
    (λ tells can. marks _ _ _ page (view_image c.args.v.now (g.met.N.Nor.sized _) tells) can)
    (λ tells can. clears_header _ _ _ page (view_image c.args.v.now (g.met.N.Nor.sized _) tells) can _)

pub returns-in_err-mark_removed-clause-few : goal.returns-in_err-mark_removed-clause-few
returns-in_err-mark_removed-clause-few g c = omega (arith, c.in_err-mark_removed.ensures.few)

pub returns-clause-few : goal.returns-clause-few
returns-clause-few g c = omega (arith, c.in_ok-mark_removed.ensures.few, c.kill.ensures.few)
