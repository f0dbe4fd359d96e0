use Rattle.std.proofs.Common.{ap, ◌∙◌}
use Rattle.std.proofs.lemmas.Result.{on_ok_weaker, on_err_weaker}
use Rattle.image_picture.specs.declared.signs.Sign.{Sign}
use Rattle.image_picture.specs.Pieces.{page_piece}
use Rattle.image_picture.proofs.Speaking.{on_err, drawn_same, stopped_same, drawn_after, stopped_after, stopped_read}
use Rattle.image_picture.proofs.drawing.draw_page.Goals as goal

pub returns-in_err-sign-clause-stopped : goal.returns-in_err-sign-clause-stopped
returns-in_err-sign-clause-stopped g c = on_err c.from_residual.result (stopped_read _ c.sign_on.ensures.reads c.in_err-sign.ensures.cause)

pub returns-clause-drawn : goal.returns-clause-drawn
returns-clause-drawn g c = on_ok_weaker c.say_piece.result
    (λ drawn. drawn_same _ _ (λ tells. c.put_page-end.ensures.put.written ∙ ap (λ (x : Sign). page_piece c.args.style c.args.g.now c.args.p x) (c.in_ok-sign.ensures.told tells (c.requires.magic tells))) (drawn_after c.sign_on.ensures.reads drawn))
    c.say_piece.ensures.drawn

pub returns-clause-stopped : goal.returns-clause-stopped
returns-clause-stopped g c = on_err_weaker c.say_piece.result
    (λ stopped. stopped_same _ _ (λ tells. c.put_page-end.ensures.put.written ∙ ap (λ (x : Sign). page_piece c.args.style c.args.g.now c.args.p x) (c.in_ok-sign.ensures.told tells (c.requires.magic tells))) (stopped_after c.sign_on.ensures.reads stopped))
    c.say_piece.ensures.stopped
