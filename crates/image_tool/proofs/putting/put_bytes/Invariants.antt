-- The bytes before a place were put, and each turn goes on to a later place.
use Rattle.std.proofs.Common.{◌≢◌, ◌-◌, ◌^◌}
use Rattle.table_model.specs.Table.{File}
use Rattle.folder_core.specs.Files.{Named}
use Rattle.flash_view.specs.Same.{OnlyLooks}
use Rattle.file_read.specs.Whole.{IsFileAt}
use Rattle.image_tool.specs.Putting.{FolderGoes}
use Rattle.image_tool.proofs.Pieces.{PutsTo}
use Rattle.image_tool.proofs.putting.put_bytes.Given as goal

abbrev pub decreases-pieces : goal.decreases-pieces
decreases-pieces g l = 2 ^ 32 - l.at

abbrev pub invariant-pieces : goal.invariant-pieces
invariant-pieces g l = record {
  looks : OnlyLooks l.fn.v l.v;
  goes : FolderGoes g.F.FolderState l.fn.folder l.folder;
  there : l.at ≢ 0 → Named l.stat.name (g.F.FolderState.entries l.folder);
  puts : g.N.NorState.tells l.fn.v.nor.now → (f : File) → IsFileAt l.fn.v.geometry (g.N.NorState.bytes l.fn.v.nor.now) l.stat.id l.header f → PutsTo g.F.FolderState l.stat.name f.bytes l.at l.fn.folder l.folder;
}
