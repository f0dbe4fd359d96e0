use Rattle.std.proofs.Common.{refl, sym, ◌∙◌, arith}
use Rattle.image_model.specs.Places.{IsImage}
use Rattle.file_calls.proofs.Removing.{named_some, named_none}
use Rattle.file_calls.proofs.remove.find_named.Goals as goal

pub returns-in-Some-clause-told : goal.returns-in-Some-clause-told
returns-in-Some-clause-told g c = λ tells tidy.
    let view = c.args.v.now in
    let image = g.N.NorState.bytes view.nor.now in
    let size = g.met.N.Nor.sized view.nor.now tells in
    let whole : IsImage view.geometry image = record { len = omega (arith, size, view.volume) } in
    named_some view.geometry image c.args.name.now c.in-Some.id whole tidy (sym (c.in_ok-id.ensures.told tells tidy) ∙ c.in-Some.is)

pub returns-in-None-clause-told : goal.returns-in-None-clause-told
returns-in-None-clause-told g c = λ tells tidy no_fault.
    let view = c.args.v.now in
    let image = g.N.NorState.bytes view.nor.now in
    let size = g.met.N.Nor.sized view.nor.now tells in
    let whole : IsImage view.geometry image = record { len = omega (arith, size, view.volume) } in
    (refl, named_none view.geometry image c.args.name.now whole tidy (sym (c.in_ok-id.ensures.told tells tidy) ∙ c.in-None.is))
