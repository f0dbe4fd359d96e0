use Rattle.volume_make.specs.Making.{OnlyFailsFrom}
use Rattle.volume_make.proofs.Composing.{passed, if_ok, if_err, makes, only_fails, only_fails_telling}
use Rattle.volume_make.proofs.files.put_files.Goals as goal

pub returns-in_err-put_each-clause-stops : goal.returns-in_err-put_each-clause-stops
returns-in_err-put_each-clause-stops g c =
    passed (OnlyFailsFrom g.F.FolderState c.args.volume.now c.args.folder.now) c.from_residual.result _ c.from_residual.ensures.1 (only_fails g.F.FolderState _ c.count.ensures.kept c.in_err-put_each.ensures.stops)

pub returns-clause-made : goal.returns-clause-made
returns-clause-made g c =
    if_ok c.tell_info.result
    (λ info told. makes g.F.FolderState c.in-Ok.count info c.count.ensures.kept c.in_ok-put_each.ensures.kept c.in-Ok.ensures.count (g.met.F.Folder.listed c.args.folder.now) c.in_ok-put_each.ensures.puts told)
    c.tell_info.ensures.told

pub returns-clause-stops : goal.returns-clause-stops
returns-clause-stops g c =
    if_err c.tell_info.result (λ why stops. only_fails_telling g.F.FolderState c.in-Ok.count why c.count.ensures.kept c.in_ok-put_each.ensures.puts stops) c.tell_info.ensures.stops
