use Rattle.folder_plan.proofs.Keeping.{kept_then}
use Rattle.volume_run.proofs.Moving.{moved_then}
use Rattle.volume_make.specs.Making.{FailsFrom}
use Rattle.volume_make.proofs.Composing.{passed, puts_then, fails_then}
use Rattle.volume_make.proofs.files.put_each.Goals as goal

pub loop-i-preserved : goal.loop-i-preserved
loop-i-preserved g c =
    let was = c.loop-i.invariant in
    let file = c.in_ok-put_file.ensures in
    record {
      moved = moved_then was.moved file.moved;
      kept = kept_then was.kept file.kept;
      puts = puts_then g.F.FolderState 0 c.loop-i.i _ was.puts file.puts;
    }

pub returns-in_err-put_file-clause-stops : goal.returns-in_err-put_file-clause-stops
returns-in_err-put_file-clause-stops g c =
    passed (FailsFrom g.F.FolderState 0 c.args.volume.now c.args.folder.now) c.from_residual.result _ c.from_residual.ensures.1
    (fails_then g.F.FolderState 0 c.loop-i.i _ c.loop-i.invariant.puts c.in_err-put_file.ensures.stops)
