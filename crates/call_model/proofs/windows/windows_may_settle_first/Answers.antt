use Rattle.call_model.proofs.After.{after-settled, after-refused}
use Rattle.call_model.proofs.windows.windows_may_settle_first.Goals as goal

pub returns-clause-done : goal.returns-clause-done
returns-clause-done c = after-settled

pub returns-clause-refused : goal.returns-clause-refused
returns-clause-refused c = after-refused
