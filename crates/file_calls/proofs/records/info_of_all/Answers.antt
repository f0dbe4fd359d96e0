use Rattle.std.proofs.Common.{arith}
use Rattle.image_model.specs.Places.{IsImage}
use Rattle.file_calls.proofs.Recording.{info_by}
use Rattle.file_calls.proofs.records.info_of_all.Goals as goal

pub returns-clause-told : goal.returns-clause-told
returns-clause-told g c = λ tells tidy.
    let view = c.args.v.now in
    let image = g.N.NorState.bytes view.nor.now in
    let looked = c.in_ok-counts.ensures in
    let size = g.met.N.Nor.sized view.nor.now tells in
    let whole : IsImage view.geometry image = record { len = omega (arith, size, view.volume) } in
    rw (c.blocks-2.ensures, c.entries.ensures.count, looked.looks.same.geometry) (info_by view.geometry image c.in_ok-counts.counts whole tidy (looked.told tells))
