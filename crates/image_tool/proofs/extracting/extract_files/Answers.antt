use Rattle.std.proofs.Common.{◌≡◌, sym, List, None, rules, subst}
use Rattle.std.specs.Option.{option_map}
use Rattle.nor_core.proofs.Cuts.{reads_none}
use Rattle.table_model.specs.Table.{File, file_above}
use Rattle.image_model.specs.Tables.{table_of}
use Rattle.flash_view.proofs.Looking.{same_none, same_then}
use Rattle.image_tool.specs.Putting.{folder_files, PutsFiles}
use Rattle.image_tool.specs.Texts.{record_line, record_lines}
use Rattle.image_laws.proofs.Ascending.{table-ascends}
use Rattle.image_tool.proofs.Files.{extracts_passed, files_err, files_more, files_done}
use Rattle.image_tool.proofs.Pieces.{goes_none, goes_then, kept_none, files_none}
use Rattle.image_tool.proofs.Speaking.{says_none}
use Rattle.image_tool.proofs.Walking.{place_first, walk_says}
use Rattle.image_tool.proofs.extracting.extract_files.Goals as goal

pub loop-id-init : goal.loop-id-init
loop-id-init g c =
    let v = c.args.v.now in
    let folder = c.args.folder.now in
    record {
      same = same_none v;
      goes = goes_none folder;
      says = says_none _ (reads_none v.nor.now);
      place = λ tells.
          let w = place_first (λ (f : File). f.id) record_line (g.B.NorState.said v.nor.now) _ (table-ascends v.geometry (g.B.NorState.bytes v.nor.now)) in
          (w.0, subst (λ (l : List File). PutsFiles g.F.FolderState (folder_files l) folder folder) (sym w.1) (files_none (kept_none folder)));
    }

pub returns-in_err-id-clause-says : goal.returns-in_err-id-clause-says
unfolding record_lines file_above
returns-in_err-id-clause-says g c =
    let was = c.loop-id.invariant in
    let first : List File = table_of c.args.v.now.geometry (g.B.NorState.bytes c.args.v.now.nor.now) in
    let here : List File = table_of c.loop-id.v.geometry (g.B.NorState.bytes c.loop-id.v.nor.now) in
    let e : here ≡ first = cc (was.same.geometry, was.says.bytes) in
    walk_says (λ (f : File). f.id) record_line first here c.loop-id.after e was.says (λ tells. (was.place tells).0) c.extract_next.ensures.says

pub returns-in_err-id-clause-same : goal.returns-in_err-id-clause-same
returns-in_err-id-clause-same g c = same_then c.loop-id.invariant.same c.extract_next.ensures.same

pub returns-in_err-id-clause-told : goal.returns-in_err-id-clause-told
returns-in_err-id-clause-told g c = λ tells.
    let was = c.loop-id.invariant in
    let w = was.place tells in
    let first : List File = table_of c.args.v.now.geometry (g.B.NorState.bytes c.args.v.now.nor.now) in
    let here : List File = table_of c.loop-id.v.geometry (g.B.NorState.bytes c.loop-id.v.nor.now) in
    let e : here ≡ first = cc (was.same.geometry, was.says.bytes) in
    extracts_passed _ _ _ _ _ _ _ _ _ c.in_err-id.field-0.0 c.from_residual.result c.from_residual.ensures.0 c.from_residual.ensures.1
    (files_err g.B.NorState g.F.FolderState _ _ _ _ _ _ first c.loop-id.after w.0 was.goes w.1 here e (λ found. found ≡ option_map (λ (f : File). f.id) (file_above c.loop-id.after here)) (λ done. Unit {0}) c.in_err-id.field-0.0 (c.in_err-id.ensures.told (was.says.cuts.told tells)))

pub loop-id-preserved : goal.loop-id-preserved
unfolding record_lines file_above
loop-id-preserved g c =
    let was = c.loop-id.invariant in
    let first : List File = table_of c.args.v.now.geometry (g.B.NorState.bytes c.args.v.now.nor.now) in
    let here : List File = table_of c.loop-id.v.geometry (g.B.NorState.bytes c.loop-id.v.nor.now) in
    let e : here ≡ first = cc (was.same.geometry, was.says.bytes) in
    record {
      same = same_then was.same c.extract_next.ensures.same;
      goes = goes_then was.goes c.extract_next.ensures.goes;
      says = walk_says (λ (f : File). f.id) record_line first here c.loop-id.after e was.says (λ tells. (was.place tells).0) c.extract_next.ensures.says;
      place = λ tells.
          let w = was.place tells in
          let told = (rw (was.same.geometry, was.says.bytes) at c.in_ok-id.ensures.told) (was.says.cuts.told tells) in
          let found = rw c.in-Some.is at told in
          files_more g.B.NorState g.F.FolderState _ _ _ _ _ _ first c.loop-id.after w.0 was.goes w.1 c.in-Some.id found;
    }

pub returns-clause-says : goal.returns-clause-says
unfolding record_lines file_above
returns-clause-says g c =
    let was = c.loop-id.invariant in
    let first : List File = table_of c.args.v.now.geometry (g.B.NorState.bytes c.args.v.now.nor.now) in
    let here : List File = table_of c.loop-id.v.geometry (g.B.NorState.bytes c.loop-id.v.nor.now) in
    let e : here ≡ first = cc (was.same.geometry, was.says.bytes) in
    walk_says (λ (f : File). f.id) record_line first here c.loop-id.after e was.says (λ tells. (was.place tells).0) c.extract_next.ensures.says

pub returns-clause-told : goal.returns-clause-told
returns-clause-told g c = λ tells.
    let was = c.loop-id.invariant in
    let w = was.place tells in
    let told = (rw (was.same.geometry, was.says.bytes) at c.in_ok-id.ensures.told) (was.says.cuts.told tells) in
    let none : c.in_ok-id.field-0 ≡ None = search rules in
    let found = rw none at told in
    (files_done g.B.NorState g.F.FolderState _ _ _ _ _ _ _ c.loop-id.after w.0 was.goes w.1 found, tt)

pub returns-clause-same : goal.returns-clause-same
returns-clause-same g c = same_then c.loop-id.invariant.same c.extract_next.ensures.same
