use Rattle.volume_run.proofs.Quieting.{quiet-calls, quiet-writes}
use Rattle.volume_run.proofs.resting.calls_are_quiet.Goals as goal

pub returns-clause-calls : goal.returns-clause-calls
returns-clause-calls c = quiet-calls

pub returns-clause-writes : goal.returns-clause-writes
returns-clause-writes c = quiet-writes
