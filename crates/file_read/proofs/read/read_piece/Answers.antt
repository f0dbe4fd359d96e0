use Rattle.std.proofs.Common.{◌≡◌, ◌+◌, ◌-◌, ◌<◌, ◌≤◌, length, take, drop, ℕ, List, arith, length-take, length-drop}
use Rattle.std.proofs.lemmas.Grind.{common_steps}
use Rattle.image_model.specs.Places.{IsImage}
use Rattle.file_read.proofs.Pieces.{Next, next, reads_part}
use Rattle.file_read.proofs.Going.{passed}
use Rattle.file_read.proofs.read.read_piece.Goals as goal

pub returns-in_err-read_span-clause-told : goal.returns-in_err-read_span-clause-told
returns-in_err-read_span-clause-told g c = λ tells f reading named.
    let view = c.args.v.now in
    let image = g.N.NorState.bytes view.nor.now in
    let size = g.met.N.Nor.sized view.nor.now tells in
    let whole : IsImage view.geometry image = record { len = omega (arith, size, view.volume) } in
    let n = next view.geometry image c.args.id f c.args.index c.args.at c.args.done whole reading.file (omega (arith, reading.inside, c.requires.some)) named in
    let told = c.in_err-read_span.ensures.told tells n.page (rw c.body-body.ensures n.named) in
    passed c.in_err-read_span.field-0.0 c.from_residual.result _ _ c.from_residual.ensures.0 c.from_residual.ensures.1 told

pub returns-clause-told : goal.returns-clause-told
returns-clause-told g c = λ tells f reading named.
    let view = c.args.v.now in
    let image = g.N.NorState.bytes view.nor.now in
    let size = g.met.N.Nor.sized view.nor.now tells in
    let whole : IsImage view.geometry image = record { len = omega (arith, size, view.volume) } in
    let n = next view.geometry image c.args.id f c.args.index c.args.at c.args.done whole reading.file (omega (arith, reading.inside, c.requires.some)) named in
    let read = (rw c.body-body.ensures at (c.in_ok-read_span.ensures.told)) tells n.page n.named in
    reads_part view.geometry image c.args.id f c.args.index c.args.at c.args.done c.min-len.result _ c.args.into.now c.read_span.new.part _ reading n
    (grind (arith, common_steps)) (grind (arith, common_steps)) (grind (arith, common_steps)) (grind (arith, common_steps)) read (grind (arith, common_steps)) (grind (arith, common_steps))
