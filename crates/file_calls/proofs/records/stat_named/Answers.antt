use Rattle.std.proofs.Common.{◌≡◌, sym, ◌∙◌, arith, Some}
use Rattle.std.proofs.lemmas.Result.{IfOk-weaker}
use Rattle.image_model.specs.Places.{IsImage}
use Rattle.flash_view.specs.Found.{first_named}
use Rattle.file_calls.proofs.Recording.{of_name, no_name}
use Rattle.file_calls.proofs.records.stat_named.Goals as goal

pub returns-in-Some-clause-told : goal.returns-in-Some-clause-told
returns-in-Some-clause-told g c = λ tells tidy.
    let view = c.args.v.now in
    let image = g.N.NorState.bytes view.nor.now in
    let size = g.met.N.Nor.sized view.nor.now tells in
    let whole : IsImage view.geometry image = record { len = omega (arith, size, view.volume) } in
    let looked = c.in_ok-id.ensures in
    let first : first_named view.geometry image c.args.name.now ≡ Some c.in-Some.id = sym (looked.told tells tidy) ∙ c.in-Some.is in
    let found = (rw (looked.looks.same.geometry, looked.looks.reads.bytes) at c.stat_of_id.ensures.told) (looked.looks.reads.told tells) tidy in
    IfOk-weaker c.stat_of_id.result _ _ (λ stat is. is ∙ of_name view.geometry image whole tidy c.args.name.now c.in-Some.id first) found

pub returns-in-None-clause-told : goal.returns-in-None-clause-told
returns-in-None-clause-told g c = λ tells tidy.
    let view = c.args.v.now in
    let image = g.N.NorState.bytes view.nor.now in
    let size = g.met.N.Nor.sized view.nor.now tells in
    let whole : IsImage view.geometry image = record { len = omega (arith, size, view.volume) } in
    no_name view.geometry image whole tidy c.args.name.now (sym (c.in_ok-id.ensures.told tells tidy) ∙ c.in-None.is)
