use Rattle.std.proofs.Common.{length, sym}
use Rattle.volume_make.proofs.Composing.{puts_piece, stops_piece}
use Rattle.volume_make.proofs.pieces.put_piece.Goals as goal

pub returns-clause-puts : goal.returns-clause-puts
returns-clause-puts g c =
    puts_piece g.F.FolderState c.args.volume.now c.perform.new.volume c.args.folder.now c.read.new.self c.perform.result c.args.i c.args.at (length c.args.piece.now) c.args.fd c.read.new.into (sym c.read.auto.into) c.requires.some c.requires.inside c.requires.within c.read.ensures.kept c.in_default.ensures.read c.perform.ensures.done

pub returns-clause-stops : goal.returns-clause-stops
returns-clause-stops g c =
    stops_piece g.F.FolderState c.args.volume.now c.args.folder.now c.perform.result c.args.i c.args.at (length c.args.piece.now) c.args.fd c.read.new.into (sym c.read.auto.into) c.requires.some c.requires.inside c.requires.within c.perform.ensures.undone
