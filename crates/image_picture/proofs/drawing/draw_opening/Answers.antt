use Rattle.std.proofs.Common.{◌∙◌}
use Rattle.nor_core.proofs.Cuts.{reads_then}
use Rattle.image_picture.proofs.Told.{opening_told}
use Rattle.image_picture.proofs.Speaking.{on_err, drawn_same, stopped_same, drawn_after, stopped_after, stopped_read}
use Rattle.image_picture.proofs.drawing.draw_opening.Goals as goal

pub returns-in_err-has-clause-stopped : goal.returns-in_err-has-clause-stopped
returns-in_err-has-clause-stopped g c = on_err _ (stopped_read _ c.magic_on.ensures.reads c.in_err-has.ensures.cause)

pub returns-in_err-raw-clause-stopped : goal.returns-in_err-raw-clause-stopped
returns-in_err-raw-clause-stopped g c = on_err _ (stopped_after c.magic_on.ensures.reads (stopped_read _ c.count_on.ensures.reads c.in_err-raw.ensures.cause))

pub returns-in_err-say_piece-clause-stopped : goal.returns-in_err-say_piece-clause-stopped
returns-in_err-say_piece-clause-stopped g c =
    let first = c.magic_on.ensures.reads in
    on_err _ (stopped_same _ _
    (λ tells. c.put_opening-end.ensures.put.written ∙ opening_told c.args.style c.args.g.now _ _ c.args.block c.in_ok-raw.raw c.in_ok-has.has first.bytes (c.in_ok-raw.ensures.told (first.told tells)) (c.in_ok-has.ensures.told tells))
    (stopped_after (reads_then first c.count_on.ensures.reads) c.in_err-say_piece.ensures.stopped))

pub returns-clause-drawn : goal.returns-clause-drawn
returns-clause-drawn g c =
    let first = c.magic_on.ensures.reads in
    drawn_same _ _
    (λ tells. c.put_opening-end.ensures.put.written ∙ opening_told c.args.style c.args.g.now _ _ c.args.block c.in_ok-raw.raw c.in_ok-has.has first.bytes (c.in_ok-raw.ensures.told (first.told tells)) (c.in_ok-has.ensures.told tells))
    (drawn_after (reads_then first c.count_on.ensures.reads) c.in_ok-say_piece.ensures.drawn)
