use Rattle.std.proofs.Common.{arith}
use Rattle.std.proofs.lemmas.List.{length-take-le}
use Rattle.folder_plan.proofs.Keeping.{kept_then}
use Rattle.volume_run.proofs.Moving.{moved_then}
use Rattle.volume_make.specs.Making.{StopsWriting}
use Rattle.volume_make.proofs.Composing.{passed, writes_more, stops_then_writing}
use Rattle.volume_make.proofs.pieces.put_pieces.Goals as goal

pub loop-at-preserved : goal.loop-at-preserved
loop-at-preserved g c =
    let was = c.loop-at.invariant in
    let piece = c.in_ok-put_piece.ensures in
    record {
      within = omega (arith, was.within, c.piece_length-count.ensures.left, c.loop-at-test.true);
      moved = moved_then was.moved piece.moved;
      kept = kept_then was.kept piece.kept;
      puts = λ first. writes_more g.F.FolderState c.args.i c.loop-at.at _ c.piece_length-count.result (length-take-le c.piece_length-count.result c.loop-at.lent c.piece_length-count.ensures.most) (was.puts first) (piece.puts first);
    }

pub returns-in_err-put_piece-clause-stops : goal.returns-in_err-put_piece-clause-stops
returns-in_err-put_piece-clause-stops g c = λ first.
    passed (StopsWriting g.F.FolderState c.args.i 0 c.args.volume.now c.args.folder.now) c.from_residual.result _ c.from_residual.ensures.1
    (stops_then_writing g.F.FolderState c.args.i 0 c.loop-at.at _ (c.loop-at.invariant.puts first) (c.in_err-put_piece.ensures.stops first))
