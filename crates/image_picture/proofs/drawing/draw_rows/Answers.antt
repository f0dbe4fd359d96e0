use Rattle.std.proofs.Common.{◌≡◌, ◌<◌, ◌+◌, ℕ, List, ap, arith}
use Rattle.image_picture.specs.Picture.{row_of}
use Rattle.image_picture.proofs.Speaking.{on_err}
use Rattle.image_picture.proofs.Turns.{turns_more, turns_stop, turns_all}
use Rattle.image_picture.proofs.drawing.draw_rows.Goals as goal

pub returns-in_err-draw_row-clause-stopped : goal.returns-in_err-draw_row-clause-stopped
returns-in_err-draw_row-clause-stopped g c =
    let was = c.loop-block.invariant in
    let high : c.loop-block.block < 0 + c.args.g.now.blocks = omega arith in
    on_err _ (turns_stop (row_of c.args.style c.args.g.now (g.B.NorState.bytes c.args.board.now)) 0
    (row_of c.args.style c.args.g.now (g.B.NorState.bytes c.loop-block.board)) c.loop-block.block c.args.g.now.blocks (omega arith) high
    (ap (λ (l : List ℕ). row_of c.args.style c.args.g.now l c.loop-block.block) was.bytes) was c.in_err-draw_row.ensures.stopped)

pub loop-block-preserved : goal.loop-block-preserved
loop-block-preserved g c =
    let was = c.loop-block.invariant in
    turns_more (row_of c.args.style c.args.g.now (g.B.NorState.bytes c.args.board.now)) 0
    (row_of c.args.style c.args.g.now (g.B.NorState.bytes c.loop-block.board)) c.loop-block.block (omega arith)
    (ap (λ (l : List ℕ). row_of c.args.style c.args.g.now l c.loop-block.block) was.bytes) was c.in_ok-draw_row.ensures.drawn

pub returns-clause-drawn : goal.returns-clause-drawn
returns-clause-drawn g c =
    let end : c.loop-block.block ≡ 0 + c.args.g.now.blocks = omega arith in
    turns_all (row_of c.args.style c.args.g.now (g.B.NorState.bytes c.args.board.now)) 0 c.loop-block.block c.args.g.now.blocks end c.loop-block.invariant
