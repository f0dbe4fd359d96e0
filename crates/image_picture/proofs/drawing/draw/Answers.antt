use Rattle.std.proofs.Common.{List, ℕ, ap}
use Rattle.std.specs.List.{flat_map, range_with_len}
use Rattle.std.proofs.lemmas.Result.{on_ok_weaker, on_err_weaker}
use Rattle.image_picture.specs.Picture.{row_of}
use Rattle.image_picture.proofs.Speaking.{on_err, drawn_same, stopped_same, drawn_then, stopped_then, stopped_first}
use Rattle.image_picture.proofs.drawing.draw.Goals as goal

pub returns-in_err-say_piece-clause-stopped : goal.returns-in_err-say_piece-clause-stopped
returns-in_err-say_piece-clause-stopped g c =
    on_err _ (stopped_first _ (stopped_first _ (stopped_same _ _ (λ tells. c.put_top-end.ensures.put.written) c.in_err-say_piece.ensures.stopped)))

pub returns-in_err-draw_rows-clause-stopped : goal.returns-in_err-draw_rows-clause-stopped
returns-in_err-draw_rows-clause-stopped g c =
    let first = c.in_ok-say_piece.ensures.drawn in
    on_err _ (stopped_first _ (stopped_then (drawn_same _ _ (λ tells. c.put_top-end.ensures.put.written) first)
    (stopped_same _ _ (λ tells. ap (λ (l : List ℕ). flat_map (row_of c.args.style c.args.g.now l) (range_with_len 0 c.args.g.now.blocks)) first.bytes) c.in_err-draw_rows.ensures.stopped)))

pub returns-clause-drawn : goal.returns-clause-drawn
returns-clause-drawn g c =
    let first = c.in_ok-say_piece.ensures.drawn in
    on_ok_weaker c.say_piece-2.result
    (λ drawn. drawn_then (drawn_then (drawn_same _ _ (λ tells. c.put_top-end.ensures.put.written) first)
    (drawn_same _ _ (λ tells. ap (λ (l : List ℕ). flat_map (row_of c.args.style c.args.g.now l) (range_with_len 0 c.args.g.now.blocks)) first.bytes) c.in_ok-draw_rows.ensures.drawn))
    (drawn_same _ _ (λ tells. c.put_legend-end.ensures.put.written) drawn))
    c.say_piece-2.ensures.drawn

pub returns-clause-stopped : goal.returns-clause-stopped
returns-clause-stopped g c =
    let first = c.in_ok-say_piece.ensures.drawn in
    on_err_weaker c.say_piece-2.result
    (λ stopped. stopped_then (drawn_then (drawn_same _ _ (λ tells. c.put_top-end.ensures.put.written) first)
    (drawn_same _ _ (λ tells. ap (λ (l : List ℕ). flat_map (row_of c.args.style c.args.g.now l) (range_with_len 0 c.args.g.now.blocks)) first.bytes) c.in_ok-draw_rows.ensures.drawn))
    (stopped_same _ _ (λ tells. c.put_legend-end.ensures.put.written) stopped))
    c.say_piece-2.ensures.stopped
