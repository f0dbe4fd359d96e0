use Rattle.std.proofs.Common.{◌<◌, refl, arith, inl, length}
use Rattle.flash_view.proofs.Looking.{looks_none, looks_then}
use Rattle.image_tool.proofs.Pieces.{goes_none, goes_then, kept_none}
use Rattle.image_tool.proofs.Files.{bytes_passed, pieces_err, pieces_more, pieces_done}
use Rattle.image_tool.proofs.putting.put_bytes.Goals as goal

pub pieces-init : goal.pieces-init
pieces-init g c = record {
  looks = looks_none c.args.v.now;
  goes = goes_none c.args.folder.now;
  there = λ some. absurd (some refl);
  puts = λ tells f is. inl (refl, kept_none c.args.folder.now);
}

pub pieces-preserved : goal.pieces-preserved
pieces-preserved g c =
    let was = c.pieces.invariant in
    let piece = c.in_ok-end.ensures in
    let more : c.pieces.at < c.in_ok-end.end = omega (arith, c.requires.room, c.pieces.auto.piece, c.if-end-at.false, piece.within.0) in
    record {
      looks = looks_then was.looks piece.looks;
      goes = goes_then was.goes piece.goes;
      there = λ some. piece.there;
      puts = λ tells f is.
          let told = (rw (was.looks.same.geometry, was.looks.reads.bytes) at piece.told) (was.looks.reads.told tells) f is in
          pieces_more f.bytes c.pieces.at (length c.pieces.piece) c.in_ok-end.end more was.goes (was.puts tells f is) told;
    }

pub returns-in_err-end-clause-looks : goal.returns-in_err-end-clause-looks
returns-in_err-end-clause-looks g c = looks_then c.pieces.invariant.looks c.in_err-end.ensures.looks

pub returns-in_err-end-clause-told : goal.returns-in_err-end-clause-told
returns-in_err-end-clause-told g c = λ tells f is.
    let was = c.pieces.invariant in
    let told = (rw (was.looks.same.geometry, was.looks.reads.bytes) at c.in_err-end.ensures.told) (was.looks.reads.told tells) f is in
    bytes_passed _ _ _ _ _ c.in_err-end.field-0.0 c.from_residual.result c.from_residual.ensures.0 c.from_residual.ensures.1 (pieces_err c.in_err-end.field-0.0 f.bytes c.pieces.at (length c.pieces.piece) _ was.goes (was.puts tells f is) told)

pub returns-then-end-at-clause-looks : goal.returns-then-end-at-clause-looks
returns-then-end-at-clause-looks g c = looks_then c.pieces.invariant.looks c.in_ok-end.ensures.looks

pub returns-then-end-at-clause-told : goal.returns-then-end-at-clause-told
returns-then-end-at-clause-told g c = λ tells f is.
    let was = c.pieces.invariant in
    let told = (rw (was.looks.same.geometry, was.looks.reads.bytes) at c.in_ok-end.ensures.told) (was.looks.reads.told tells) f is in
    pieces_done f.bytes c.pieces.at (length c.pieces.piece) c.in_ok-end.end (omega (arith, c.if-end-at.true, c.put_piece.auto.piece)) was.goes (was.puts tells f is) told
