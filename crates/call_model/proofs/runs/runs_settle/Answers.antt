use Rattle.call_model.proofs.Settling.{wait_settles, wait_ends}
use Rattle.call_model.proofs.runs.runs_settle.Goals as goal

pub returns-clause-steps : goal.returns-clause-steps
returns-clause-steps c = wait_settles

pub returns-clause-end : goal.returns-clause-end
returns-clause-end c = wait_ends
