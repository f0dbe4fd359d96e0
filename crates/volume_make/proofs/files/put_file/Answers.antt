use Rattle.std.proofs.Common.{◌∙◌, sym}
use Rattle.folder_plan.proofs.Keeping.{kept_then}
use Rattle.volume_make.specs.declared.put_err.PutErr.TheVariants.{Refused}
use Rattle.volume_make.proofs.Composing.{on_ok, if_err, named_by, puts_kept, fails_kept, never_unnamed}
use Rattle.volume_make.proofs.files.put_file.Goals as goal

pub returns-in-Some-clause-puts : goal.returns-in-Some-clause-puts
returns-in-Some-clause-puts g c =
    let kept = kept_then c.name_of.ensures.kept c.size.ensures.kept in
    let named = named_by (g.F.FolderState.entries c.args.folder.now) (g.F.FolderState.entries c.size.new.self) c.args.i c.in-Ok.found c.in-Some.name c.as_slice.result.now kept.entries c.in-Ok.ensures.name c.in-Some.is c.as_slice.ensures.bytes in
    on_ok c.write_file.result (puts_kept g.F.FolderState c.args.i _ kept) (c.write_file.ensures.puts named)

pub returns-in-Some-clause-stops : goal.returns-in-Some-clause-stops
returns-in-Some-clause-stops g c =
    let kept = kept_then c.name_of.ensures.kept c.size.ensures.kept in
    let named = named_by (g.F.FolderState.entries c.args.folder.now) (g.F.FolderState.entries c.size.new.self) c.args.i c.in-Ok.found c.in-Some.name c.as_slice.result.now kept.entries c.in-Ok.ensures.name c.in-Some.is c.as_slice.ensures.bytes in
    if_err c.write_file.result (λ why fails. fails_kept g.F.FolderState c.args.i why kept fails) (c.write_file.ensures.stops named)

pub returns-in-None-clause-stops : goal.returns-in-None-clause-stops
returns-in-None-clause-stops g c = never_unnamed g.F.FolderState c.args.i Refused (sym c.in-None.is ∙ c.in-Ok.ensures.name) c.requires.inside
