use Rattle.std.proofs.Common.{◌≡◌, ◌≤◌, ◌<◌, ◌+◌, ◌*◌, ℕ, List, ap, sym, ◌∙◌, arith}
use Rattle.geometry.specs.Numbers.{per_block}
use Rattle.image_model.specs.Places.{has_magic}
use Rattle.image_picture.specs.Picture.{piece_at}
use Rattle.image_picture.proofs.Rows.{page_in}
use Rattle.image_picture.proofs.Speaking.{on_err}
use Rattle.image_picture.proofs.Turns.{turns_none, turns_more, turns_stop, turns_all}
use Rattle.image_picture.proofs.drawing.draw_pages.Goals as goal

pub loop-p-init : goal.loop-p-init
loop-p-init g c = turns_none (piece_at c.args.style c.args.g.now (g.B.NorState.bytes c.args.board.now)) (c.args.block * per_block c.args.g.now) c.args.board.now _ c.first_page-first.ensures

pub draw_page-requires-clause-page : goal.draw_page-requires-clause-page
draw_page-requires-clause-page g c =
    let low : c.args.block * per_block c.args.g.now ≤ c.loop-p.p = omega arith in
    let high : c.loop-p.p < c.args.block * per_block c.args.g.now + per_block c.args.g.now = omega arith in
    (page_in c.args.g.now c.args.block c.loop-p.p c.requires.block low high).1

pub draw_page-requires-clause-magic : goal.draw_page-requires-clause-magic
draw_page-requires-clause-magic g c = λ tells.
    let was = c.loop-p.invariant in
    let low : c.args.block * per_block c.args.g.now ≤ c.loop-p.p = omega arith in
    let high : c.loop-p.p < c.args.block * per_block c.args.g.now + per_block c.args.g.now = omega arith in
    let page = page_in c.args.g.now c.args.block c.loop-p.p c.requires.block low high in
    c.requires.magic (was.cuts.told_before tells) ∙ ap (λ (l : List ℕ). has_magic c.args.g.now l c.args.block) (sym was.bytes)
    ∙ ap (λ (b : ℕ). has_magic c.args.g.now (g.B.NorState.bytes c.loop-p.board) b) (sym page.0)

pub returns-in_err-draw_page-clause-stopped : goal.returns-in_err-draw_page-clause-stopped
returns-in_err-draw_page-clause-stopped g c =
    let was = c.loop-p.invariant in
    let low : c.args.block * per_block c.args.g.now ≤ c.loop-p.p = omega arith in
    let high : c.loop-p.p < c.args.block * per_block c.args.g.now + per_block c.args.g.now = omega arith in
    on_err _ (turns_stop (piece_at c.args.style c.args.g.now (g.B.NorState.bytes c.args.board.now)) (c.args.block * per_block c.args.g.now)
    (piece_at c.args.style c.args.g.now (g.B.NorState.bytes c.loop-p.board)) c.loop-p.p (per_block c.args.g.now) low high
    (ap (λ (l : List ℕ). piece_at c.args.style c.args.g.now l c.loop-p.p) was.bytes) was c.in_err-draw_page.ensures.stopped)

pub loop-p-preserved : goal.loop-p-preserved
loop-p-preserved g c =
    let was = c.loop-p.invariant in
    let low : c.args.block * per_block c.args.g.now ≤ c.loop-p.p = omega arith in
    turns_more (piece_at c.args.style c.args.g.now (g.B.NorState.bytes c.args.board.now)) (c.args.block * per_block c.args.g.now)
    (piece_at c.args.style c.args.g.now (g.B.NorState.bytes c.loop-p.board)) c.loop-p.p low
    (ap (λ (l : List ℕ). piece_at c.args.style c.args.g.now l c.loop-p.p) was.bytes) was c.in_ok-draw_page.ensures.drawn

pub returns-clause-drawn : goal.returns-clause-drawn
returns-clause-drawn g c =
    let end : c.loop-p.p ≡ c.args.block * per_block c.args.g.now + per_block c.args.g.now = omega arith in
    turns_all (piece_at c.args.style c.args.g.now (g.B.NorState.bytes c.args.board.now)) (c.args.block * per_block c.args.g.now) c.loop-p.p (per_block c.args.g.now) end c.loop-p.invariant
