-- The first files were put.
use Rattle.folder_core.specs.Puts.{Kept}
use Rattle.volume_run.specs.Ready.{IsMoved}
use Rattle.volume_make.specs.Making.{PutsFrom}
use Rattle.volume_make.proofs.files.put_each.Given as goal

abbrev pub invariant-loop-i : goal.invariant-loop-i
invariant-loop-i g l = record {
  moved : IsMoved l.fn.volume l.volume;
  kept : Kept g.F.FolderState l.fn.folder l.folder;
  puts : PutsFrom g.F.FolderState 0 l.i l.fn.volume l.volume l.fn.folder l.folder;
}
