use Rattle.std.proofs.Common.{ℕ, Option, ◌≡◌, ◌∙◌, subst}
use Rattle.std.specs.Option.{option_map}
use Rattle.table_model.specs.Table.{File, file_above}
use Rattle.table_model.specs.declared.reply.Stat.{Stat}
use Rattle.image_model.specs.Tables.{table_of}
use Rattle.flash_view.proofs.Looking.{same_then}
use Rattle.image_tool.specs.Lists.{NextRecord}
use Rattle.image_tool.proofs.Files.{extracts_passed, none_put, next_none, next_put, next_err}
use Rattle.image_tool.proofs.Speaking.{says_read}
use Rattle.image_tool.proofs.extracting.extract_next.Goals as goal

pub returns-in_default-clause-told : goal.returns-in_default-clause-told
returns-in_default-clause-told g c = λ tells. none_put c.args.folder.now (c.in_default.ensures.front tells)

pub returns-in_default-found-clause-told : goal.returns-in_default-found-clause-told
returns-in_default-found-clause-told g c = λ tells.
    let v = c.args.v.now in
    let image = g.B.NorState.bytes v.nor.now in
    next_none g.B.NorState g.F.FolderState v.geometry image c.args.after _ _ c.args.folder.now (subst (λ (o : Option (ℕ × Stat)). NextRecord v.geometry image c.args.after o) c.in_default-found.is (c.in-Ok.ensures.found tells)) (c.in-Ok.ensures.whole tells)

pub returns-in_err-put_bytes-clause-same : goal.returns-in_err-put_bytes-clause-same
returns-in_err-put_bytes-clause-same g c = same_then c.say_next_record.ensures.same c.put_bytes.ensures.looks.same

pub returns-in_err-put_bytes-clause-says : goal.returns-in_err-put_bytes-clause-says
returns-in_err-put_bytes-clause-says g c = says_read c.say_next_record.ensures.says c.put_bytes.ensures.looks.reads

pub returns-in_err-put_bytes-clause-told : goal.returns-in_err-put_bytes-clause-told
returns-in_err-put_bytes-clause-told g c = λ tells.
    let v = c.args.v.now in
    let image = g.B.NorState.bytes v.nor.now in
    let said = c.say_next_record.ensures in
    let next = subst (λ (o : Option (ℕ × Stat)). NextRecord v.geometry image c.args.after o) c.in-Some.is (c.in-Ok.ensures.found tells) in
    let told = (rw (said.same.geometry, said.says.bytes) at c.in_err-put_bytes.ensures.told) (said.says.cuts.told tells) next.file next.headed in
    extracts_passed _ _ _ _ _ _ _ _ _ c.in_err-put_bytes.field-0.0 c.from_residual.result c.from_residual.ensures.0 c.from_residual.ensures.1
    (next_err g.B.NorState g.F.FolderState v.geometry image c.args.after _ _ _ _ (λ found. found ≡ option_map (λ (f : File). f.id) (file_above c.args.after (table_of v.geometry image))) c.in_err-put_bytes.field-0.0 c.in-Some.header c.in-Some.stat next (c.put_bytes.ensures.looks.reads.said ∙ c.in-Ok.ensures.whole tells) told)

pub returns-clause-same : goal.returns-clause-same
returns-clause-same g c = same_then c.say_next_record.ensures.same c.put_bytes.ensures.looks.same

pub returns-clause-says : goal.returns-clause-says
returns-clause-says g c = says_read c.say_next_record.ensures.says c.put_bytes.ensures.looks.reads

pub returns-clause-told : goal.returns-clause-told
returns-clause-told g c = λ tells.
    let v = c.args.v.now in
    let image = g.B.NorState.bytes v.nor.now in
    let said = c.say_next_record.ensures in
    let next = subst (λ (o : Option (ℕ × Stat)). NextRecord v.geometry image c.args.after o) c.in-Some.is (c.in-Ok.ensures.found tells) in
    let told = (rw (said.same.geometry, said.says.bytes) at c.in_ok-put_bytes.ensures.told) (said.says.cuts.told tells) next.file next.headed in
    next_put g.B.NorState g.F.FolderState v.geometry image c.args.after _ _ _ _ c.in-Some.header c.in-Some.stat next (c.put_bytes.ensures.looks.reads.said ∙ c.in-Ok.ensures.whole tells) told
