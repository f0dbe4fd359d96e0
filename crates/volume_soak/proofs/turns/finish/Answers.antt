use Rattle.volume_run.proofs.Stopping.{stops_then}
use Rattle.volume_soak.proofs.turns.finish.Goals as goal

pub returns-in-Err-clause-stops : goal.returns-in-Err-clause-stops
returns-in-Err-clause-stops g c = stops_then c.in-Err.why c.in_ok-told.ensures.answered c.in-Err.ensures.stops
