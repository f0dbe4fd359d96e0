use Rattle.volume_run.proofs.Moving.{moved_then}
use Rattle.volume_run.proofs.Stopping.{stops_passed}
use Rattle.volume_soak.proofs.ManyTurns.{stops_soaked}
use Rattle.volume_soak.proofs.soaking.soak.Goals as goal

pub returns-in_err-files-clause-moved : goal.returns-in_err-files-clause-moved
returns-in_err-files-clause-moved g c = moved_then c.in_ok-ok.ensures.moved c.in_err-files.ensures.moved

pub returns-clause-moved : goal.returns-clause-moved
returns-clause-moved g c = moved_then c.in_ok-ok.ensures.moved c.in_ok-files.ensures.moved

pub returns-in_err-files-clause-stops : goal.returns-in_err-files-clause-stops
returns-in_err-files-clause-stops g c =
    stops_passed c.from_residual-in_err-files.result _ c.from_residual-in_err-files.ensures.1 (stops_soaked c.args.seed c.args.turns c.in_ok-ok.ok _ c.in_ok-ok.ensures.soaked c.in_err-files.ensures.stops)
