use Rattle.volume_make.specs.Making.{FailsFrom}
use Rattle.volume_make.proofs.Composing.{passed, ends_file, fails_file, fails_opening, fails_writing}
use Rattle.volume_make.proofs.files.write_file.Goals as goal

pub returns-in_err-fd-clause-stops : goal.returns-in_err-fd-clause-stops
returns-in_err-fd-clause-stops g c = λ named.
    passed (FailsFrom g.F.FolderState c.args.i c.args.volume.now c.args.folder.now) c.from_residual.result _ c.from_residual.ensures.1
    (fails_opening g.F.FolderState c.args.i c.args.name.now _ named c.requires.inside c.in_err-fd.ensures.stops)

pub returns-in_err-put_pieces-clause-stops : goal.returns-in_err-put_pieces-clause-stops
returns-in_err-put_pieces-clause-stops g c = λ named.
    passed (FailsFrom g.F.FolderState c.args.i c.args.volume.now c.args.folder.now) c.from_residual-in_err-put_pieces.result _ c.from_residual-in_err-put_pieces.ensures.1
    (fails_writing g.F.FolderState c.args.i c.in_ok-fd.fd c.args.name.now _ named c.requires.inside c.in_ok-fd.ensures.begins c.in_err-put_pieces.ensures.stops)

pub returns-clause-puts : goal.returns-clause-puts
returns-clause-puts g c =
    ends_file g.F.FolderState c.args.volume.now c.open_new.new.volume c.put_pieces.new.volume c.perform.new.volume c.args.folder.now c.put_pieces.new.folder c.perform.result c.args.i c.args.size c.in_ok-fd.fd c.args.name.now c.requires.inside c.requires.size
    c.in_ok-put_pieces.ensures.kept (g.met.F.Folder.listed c.put_pieces.new.folder) c.in_ok-fd.ensures.begins c.in_ok-put_pieces.ensures.puts c.perform.ensures.done

pub returns-clause-stops : goal.returns-clause-stops
returns-clause-stops g c =
    fails_file g.F.FolderState c.args.volume.now c.open_new.new.volume c.put_pieces.new.volume c.args.folder.now c.put_pieces.new.folder c.perform.result c.args.i c.args.size c.in_ok-fd.fd c.args.name.now c.requires.inside
    c.in_ok-fd.ensures.begins c.in_ok-put_pieces.ensures.puts c.perform.ensures.undone
