-- The lines of the files up to an id were said, and these files were put.
use Rattle.std.proofs.Common.{◌-◌}
use Rattle.table_model.specs.Table.{File}
use Rattle.image_model.specs.Tables.{table_of}
use Rattle.flash_view.specs.Same.{IsSameView}
use Rattle.image_tool.specs.Putting.{FolderGoes, PutsFiles, folder_files}
use Rattle.image_tool.specs.Saying.{OnlySays}
use Rattle.image_tool.specs.Texts.{record_line, record_lines}
use Rattle.image_tool.proofs.Walking.{Place}
use Rattle.image_tool.proofs.extracting.extract_files.Given as goal

abbrev pub invariant-loop-id : goal.invariant-loop-id
invariant-loop-id g l =
    let table = table_of l.fn.v.geometry (g.B.NorState.bytes l.fn.v.nor.now) in
    record {
      same : IsSameView l.fn.v l.v;
      goes : FolderGoes g.F.FolderState l.fn.folder l.folder;
      says : OnlySays g.B.NorState l.fn.v.nor.now l.v.nor.now (record_lines table);
      place : g.B.NorState.tells l.fn.v.nor.now → (p : Place (λ (f : File). f.id) record_line (g.B.NorState.said l.fn.v.nor.now) (g.B.NorState.said l.v.nor.now) table l.after) × PutsFiles g.F.FolderState (folder_files p.front) l.fn.folder l.folder;
    }

abbrev pub decreases-loop-id : goal.decreases-loop-id
decreases-loop-id g l = 65536 - l.after
