-- The rows so far were said.
use Rattle.std.proofs.Common.{◌-◌}
use Rattle.std.specs.List.{flat_map, range_with_len}
use Rattle.image_picture.specs.Drawing.{Drawn}
use Rattle.image_picture.specs.Picture.{row_of}
use Rattle.image_picture.proofs.drawing.draw_rows.Given as goal

abbrev pub invariant-loop-block : goal.invariant-loop-block
invariant-loop-block g l = Drawn g.B.NorState l.fn.board l.board (flat_map (row_of l.style l.g (g.B.NorState.bytes l.fn.board)) (range_with_len 0 (l.block - 0)))
