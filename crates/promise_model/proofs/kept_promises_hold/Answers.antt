use Rattle.promise_model.proofs.Keeping.{cuts_keep, ends_keep}
use Rattle.promise_model.proofs.kept_promises_hold.Goals as goal

pub returns-clause-cuts : goal.returns-clause-cuts
returns-clause-cuts c = cuts_keep

pub returns-clause-ends : goal.returns-clause-ends
returns-clause-ends c = ends_keep
