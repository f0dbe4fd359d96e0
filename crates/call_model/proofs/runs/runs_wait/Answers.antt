use Rattle.call_model.proofs.Waiting.{wait_begins, wait_goes_on}
use Rattle.call_model.proofs.runs.runs_wait.Goals as goal

pub returns-clause-begins : goal.returns-clause-begins
returns-clause-begins c = wait_begins

pub returns-clause-goes_on : goal.returns-clause-goes_on
returns-clause-goes_on c = wait_goes_on
