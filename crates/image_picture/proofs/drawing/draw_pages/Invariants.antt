-- The pages so far were said.
use Rattle.std.proofs.Common.{◌-◌, ◌*◌}
use Rattle.std.specs.List.{flat_map, range_with_len}
use Rattle.geometry.specs.Numbers.{per_block}
use Rattle.image_picture.specs.Drawing.{Drawn}
use Rattle.image_picture.specs.Picture.{piece_at}
use Rattle.image_picture.proofs.drawing.draw_pages.Given as goal

abbrev pub invariant-loop-p : goal.invariant-loop-p
invariant-loop-p g l = Drawn g.B.NorState l.fn.board l.board (flat_map (piece_at l.style l.g (g.B.NorState.bytes l.fn.board)) (range_with_len (l.block * per_block l.g) (l.p - l.block * per_block l.g)))
