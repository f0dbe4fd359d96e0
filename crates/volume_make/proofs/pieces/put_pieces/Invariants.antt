-- The bytes before a place were put.
use Rattle.std.proofs.Common.{◌≡◌, ◌-◌, ◌≤◌}
use Rattle.folder_core.specs.Puts.{Kept}
use Rattle.volume_run.specs.Ready.{IsMoved}
use Rattle.volume_make.specs.Making.{WritesFrom}
use Rattle.volume_make.proofs.pieces.put_pieces.Given as goal

abbrev pub invariant-loop-at : goal.invariant-loop-at
invariant-loop-at g l = record {
  within : l.at ≤ l.size;
  moved : IsMoved l.fn.volume l.volume;
  kept : Kept g.F.FolderState l.fn.folder l.folder;
  puts : l.fd ≡ 1 → WritesFrom g.F.FolderState l.i 0 l.at l.fn.volume l.volume l.fn.folder l.folder;
}

abbrev pub decreases-loop-at : goal.decreases-loop-at
decreases-loop-at g l = l.size - l.at
