use Rattle.std.proofs.Common.{List, ℕ, ap}
use Rattle.std.proofs.lemmas.Result.{on_ok_weaker, on_err_weaker}
use Rattle.image_picture.specs.Picture.{pages_of}
use Rattle.image_picture.proofs.Speaking.{on_err, drawn_same, stopped_same, drawn_then, stopped_then, stopped_first}
use Rattle.image_picture.proofs.drawing.draw_row.Goals as goal

pub returns-in_err-has-clause-stopped : goal.returns-in_err-has-clause-stopped
returns-in_err-has-clause-stopped g c = on_err _ (stopped_first _ (stopped_first _ c.in_err-has.ensures.stopped))

pub returns-in_err-draw_pages-clause-stopped : goal.returns-in_err-draw_pages-clause-stopped
returns-in_err-draw_pages-clause-stopped g c =
    let first = c.in_ok-has.ensures.drawn in
    on_err _ (stopped_first _ (stopped_then first (stopped_same _ _ (λ tells. ap (λ (l : List ℕ). pages_of c.args.style c.args.g.now l c.args.block) first.bytes) c.in_err-draw_pages.ensures.stopped)))

pub returns-clause-drawn : goal.returns-clause-drawn
returns-clause-drawn g c =
    let first = c.in_ok-has.ensures.drawn in
    on_ok_weaker c.say_piece.result
    (λ drawn. drawn_then (drawn_then first (drawn_same _ _ (λ tells. ap (λ (l : List ℕ). pages_of c.args.style c.args.g.now l c.args.block) first.bytes) c.in_ok-draw_pages.ensures.drawn))
    (drawn_same _ _ (λ tells. c.closing_text.ensures) drawn))
    c.say_piece.ensures.drawn

pub returns-clause-stopped : goal.returns-clause-stopped
returns-clause-stopped g c =
    let first = c.in_ok-has.ensures.drawn in
    on_err_weaker c.say_piece.result
    (λ stopped. stopped_then (drawn_then first (drawn_same _ _ (λ tells. ap (λ (l : List ℕ). pages_of c.args.style c.args.g.now l c.args.block) first.bytes) c.in_ok-draw_pages.ensures.drawn))
    (stopped_same _ _ (λ tells. c.closing_text.ensures) stopped))
    c.say_piece.ensures.stopped
