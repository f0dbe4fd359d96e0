use Rattle.std.proofs.Common.{◌≡◌, ◌+◌, ◌<◌, ◌≤◌, length, ℕ, arith, sym, ◌∙◌}
use Rattle.std.proofs.lemmas.Grind.{common_steps}
use Rattle.flash_view.proofs.Looking.{looks_then}
use Rattle.file_read.proofs.Going.{passed}
use Rattle.file_read.proofs.read.read_named.Goals as goal

pub loop-done-preserved : goal.loop-done-preserved
loop-done-preserved g c =
    let was = c.loop-done.invariant in
    let piece = c.in_ok-done.ensures in
    record {
      looks = looks_then was.looks piece.looks;
      size = grind (arith, common_steps, was.size);
      from = omega (arith, was.from, piece.more);
      some = grind (arith, common_steps, piece.more);
      named = grind (arith, common_steps, was.looks.same.geometry);
      read = λ tells f reading named.
          (rw (was.looks.same.geometry, was.looks.reads.bytes) at piece.told) (was.looks.reads.told tells) f (was.read tells f reading named) (rw was.named named);
    }
