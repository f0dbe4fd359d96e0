use Rattle.std.proofs.Common.{◌≡◌, ◌+◌, ◌-◌, ◌<◌, ◌≤◌, length, take, drop, ℕ, arith, refl, ap, ◌∙◌}
use Rattle.table_model.specs.Files.{bytes_at}
use Rattle.std.proofs.lemmas.Grind.{common_steps}
use Rattle.image_model.specs.Places.{IsImage}
use Rattle.file_read.proofs.Pieces.{file_at, first_at, size_told, read_front, read_none}
use Rattle.file_read.proofs.Going.{passed}
use Rattle.file_read.proofs.read.read_from.Goals as goal

pub returns-then-at-size-clause-told : goal.returns-then-at-size-clause-told
returns-then-at-size-clause-told g c = λ tells f given.
    let view = c.args.v.now in
    let file = file_at view.geometry (g.N.NorState.bytes view.nor.now) c.args.id c.args.header f given in
    let first = first_at view.geometry (g.N.NorState.bytes view.nor.now) c.args.id c.args.header f given in
    let image = g.N.NorState.bytes view.nor.now in
    let bytes = g.met.N.Nor.sized view.nor.now tells in
    let whole : IsImage view.geometry image = record { len = omega (arith, bytes, view.volume) } in
    let size = size_told view.geometry image c.args.id f c.args.header c.in_ok-size.size whole file first (c.in_ok-size.ensures.told tells) in
    read_none f c.args.at c.args.into.now (omega (arith, size, c.if-at-size.true))

pub returns-in_err-read_inside-clause-told : goal.returns-in_err-read_inside-clause-told
returns-in_err-read_inside-clause-told g c = λ tells f given.
    let view = c.args.v.now in
    let file = file_at view.geometry (g.N.NorState.bytes view.nor.now) c.args.id c.args.header f given in
    let first = first_at view.geometry (g.N.NorState.bytes view.nor.now) c.args.id c.args.header f given in
    let image = g.N.NorState.bytes view.nor.now in
    let bytes = g.met.N.Nor.sized view.nor.now tells in
    let whole : IsImage view.geometry image = record { len = omega (arith, bytes, view.volume) } in
    let size = size_told view.geometry image c.args.id f c.args.header c.in_ok-size.size whole file first (c.in_ok-size.ensures.told tells) in
    let looks = c.in_ok-size.ensures.looks in
    let told = (rw (looks.same.geometry, looks.reads.bytes) at c.in_err-read_inside.ensures.told) (looks.reads.told tells) f file (grind (arith, common_steps, size)) first in
    passed c.in_err-read_inside.field-0.0 c.from_residual-in_err-read_inside.result _ _ c.from_residual-in_err-read_inside.ensures.0 c.from_residual-in_err-read_inside.ensures.1 told

pub returns-clause-told : goal.returns-clause-told
returns-clause-told g c = λ tells f given.
    let view = c.args.v.now in
    let file = file_at view.geometry (g.N.NorState.bytes view.nor.now) c.args.id c.args.header f given in
    let first = first_at view.geometry (g.N.NorState.bytes view.nor.now) c.args.id c.args.header f given in
    let image = g.N.NorState.bytes view.nor.now in
    let bytes = g.met.N.Nor.sized view.nor.now tells in
    let whole : IsImage view.geometry image = record { len = omega (arith, bytes, view.volume) } in
    let size = size_told view.geometry image c.args.id f c.args.header c.in_ok-size.size whole file first (c.in_ok-size.ensures.told tells) in
    let looks = c.in_ok-size.ensures.looks in
    let told = (rw (looks.same.geometry, looks.reads.bytes) at c.in_ok-read_inside.ensures.told) (looks.reads.told tells) f file (grind (arith, common_steps, size)) first in
    let len : length (take c.min-count.result c.args.into.now) ≡ c.min-count.result = grind (arith, common_steps) in
    read_front f c.args.at c.min-count.result (length c.args.into.now) c.args.into.now c.read_inside.new.into (drop c.min-count.result c.args.into.now)
    (grind (arith, common_steps, size)) refl (grind (arith, common_steps, size)) (told ∙ ap (λ (k : ℕ). bytes_at k c.args.at f) len) (grind (arith, common_steps)) refl
