use Rattle.std.proofs.Common.{◌≡◌, ℕ, length}
use Rattle.image_model.specs.Tables.{table_of, damaged_of}
use Rattle.flash_view.proofs.Looking.{same_then}
use Rattle.image_tool.specs.Texts.{record_lines, damage_lines}
use Rattle.image_tool.proofs.Files.{extracts_passed, list_err, list_broken, list_done}
use Rattle.image_tool.proofs.Found.{damages_text, damages_many}
use Rattle.image_tool.proofs.Speaking.{says_wider, says_behind}
use Rattle.image_tool.proofs.extracting.extract_marked.Goals as goal

pub returns-in_err-extract_files-clause-says : goal.returns-in_err-extract_files-clause-says
returns-in_err-extract_files-clause-says g c = says_wider _ c.extract_files.ensures.says

pub returns-in_err-extract_files-clause-told : goal.returns-in_err-extract_files-clause-told
returns-in_err-extract_files-clause-told g c = λ tells.
    let v = c.args.v.now in
    let image = g.B.NorState.bytes v.nor.now in
    extracts_passed _ _ _ _ _ _ _ _ _ c.in_err-extract_files.field-0.0 c.from_residual.result c.from_residual.ensures.0 c.from_residual.ensures.1
    (list_err g.B.NorState g.F.FolderState (table_of v.geometry image) (λ (done : Unit {0}). Unit {0}) (λ (count : ℕ). count ≡ length (damaged_of v.geometry image)) _ _ _ _ (record_lines (table_of v.geometry image)) (damage_lines (damaged_of v.geometry image)) c.in_err-extract_files.field-0.0 (c.in_err-extract_files.ensures.told tells))

pub returns-in-Err-clause-says : goal.returns-in-Err-clause-says
returns-in-Err-clause-says g c =
    let v = c.args.v.now in
    let image = g.B.NorState.bytes v.nor.now in
    let first = c.extract_files.ensures in
    let says = rw (first.same.geometry, first.says.bytes, damages_text v.geometry image) at c.list_part.ensures.says in
    says_behind (record_lines (table_of v.geometry image)) (damage_lines (damaged_of v.geometry image)) first.says (λ tells. (c.in_ok-extract_files.ensures.told tells).0.said) says

pub returns-in-Ok-clause-says : goal.returns-in-Ok-clause-says
returns-in-Ok-clause-says g c =
    let v = c.args.v.now in
    let image = g.B.NorState.bytes v.nor.now in
    let first = c.extract_files.ensures in
    let says = rw (first.same.geometry, first.says.bytes, damages_text v.geometry image) at c.list_part.ensures.says in
    says_behind (record_lines (table_of v.geometry image)) (damage_lines (damaged_of v.geometry image)) first.says (λ tells. (c.in_ok-extract_files.ensures.told tells).0.said) says

pub returns-in-Err-clause-told : goal.returns-in-Err-clause-told
returns-in-Err-clause-told g c = λ tells.
    let v = c.args.v.now in
    let image = g.B.NorState.bytes v.nor.now in
    let first = c.extract_files.ensures in
    let front = (rw (first.same.geometry, first.says.bytes, damages_text v.geometry image) at c.in-Err.ensures.front) (first.says.cuts.told tells) in
    list_broken g.B.NorState g.F.FolderState (table_of v.geometry image) (record_lines (table_of v.geometry image)) (damage_lines (damaged_of v.geometry image)) (c.in_ok-extract_files.ensures.told tells).0 front

pub returns-in-Ok-clause-told : goal.returns-in-Ok-clause-told
returns-in-Ok-clause-told g c = λ tells.
    let v = c.args.v.now in
    let image = g.B.NorState.bytes v.nor.now in
    let first = c.extract_files.ensures in
    let whole = (rw (first.same.geometry, first.says.bytes, damages_text v.geometry image) at c.in-Ok.ensures.whole) (first.says.cuts.told tells) in
    let count = (rw (first.same.geometry, first.says.bytes, damages_many v.geometry image) at c.in-Ok.ensures.count) (first.says.cuts.told tells) in
    (list_done g.B.NorState g.F.FolderState (table_of v.geometry image) (record_lines (table_of v.geometry image)) (damage_lines (damaged_of v.geometry image)) (c.in_ok-extract_files.ensures.told tells).0 whole, count)

pub returns-in-Ok-clause-same : goal.returns-in-Ok-clause-same
returns-in-Ok-clause-same g c = same_then c.extract_files.ensures.same c.list_part.ensures.same
