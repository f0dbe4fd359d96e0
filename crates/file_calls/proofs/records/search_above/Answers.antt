use Rattle.std.proofs.Common.{◌∙◌, arith, Some, None}
use Rattle.std.proofs.lemmas.Result.{IfOk-weaker}
use Rattle.image_model.specs.Places.{IsImage}
use Rattle.flash_view.specs.Found.{NextId}
use Rattle.file_calls.proofs.Recording.{of_next, no_next}
use Rattle.file_calls.proofs.records.search_above.Goals as goal

pub returns-in-Some-clause-told : goal.returns-in-Some-clause-told
returns-in-Some-clause-told g c = λ tells tidy.
    let view = c.args.v.now in
    let image = g.N.NorState.bytes view.nor.now in
    let size = g.met.N.Nor.sized view.nor.now tells in
    let whole : IsImage view.geometry image = record { len = omega (arith, size, view.volume) } in
    let looked = c.in_ok-id.ensures in
    let next : NextId view.geometry image c.args.after (Some c.in-Some.id) = rw c.in-Some.is at (looked.told tells) in
    let found = (rw (looked.looks.same.geometry, looked.looks.reads.bytes) at c.stat_of_id.ensures.told) (looked.looks.reads.told tells) tidy in
    IfOk-weaker c.stat_of_id.result _ _ (λ stat is. is ∙ of_next view.geometry image whole tidy c.args.after c.in-Some.id next) found

pub returns-in-None-clause-told : goal.returns-in-None-clause-told
returns-in-None-clause-told g c = λ tells tidy.
    let view = c.args.v.now in
    let image = g.N.NorState.bytes view.nor.now in
    let size = g.met.N.Nor.sized view.nor.now tells in
    let whole : IsImage view.geometry image = record { len = omega (arith, size, view.volume) } in
    let next : NextId view.geometry image c.args.after None = rw c.in-None.is at (c.in_ok-id.ensures.told tells) in
    no_next view.geometry image whole tidy c.args.after next
