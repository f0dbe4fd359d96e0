use Rattle.std.proofs.Common.{◌≡◌, Some, None, sym, ◌∙◌}
use Rattle.std.proofs.lemmas.Option.{none-some}
use Rattle.image_model.specs.Live.{live_at, own}
use Rattle.image_model.specs.Files.{index_page}
use Rattle.file_read.proofs.Pieces.{parts, at_first}
use Rattle.file_calls.proofs.reading.read_file.Goals as goal

pub returns-in-None-clause-told : goal.returns-in-None-clause-told
returns-in-None-clause-told g c = λ tells tidy f file.
    let view = c.args.v.now in
    let image = g.N.NorState.bytes view.nor.now in
    let p = parts view.geometry image c.args.id f file in
    let none : index_page view.geometry (own (live_at view.geometry image) c.args.id) 0 ≡ None = cc (c.in_ok-header.ensures.told tells tidy, c.in-None.is) in
    absurd (none-some p.header (sym none ∙ p.first))

pub returns-in-Some-clause-told : goal.returns-in-Some-clause-told
returns-in-Some-clause-told g c = λ tells tidy f file.
    let view = c.args.v.now in
    let image = g.N.NorState.bytes view.nor.now in
    let looks = c.in_ok-header.ensures.looks in
    let first : index_page view.geometry (own (live_at view.geometry image) c.args.id) 0 ≡ Some c.in-Some.header = cc (c.in_ok-header.ensures.told tells tidy, c.in-Some.is) in
    (rw (looks.same.geometry, looks.reads.bytes) at c.read_from.ensures.told) (looks.reads.told tells) f (at_first view.geometry image c.args.id c.in-Some.header f file first)
