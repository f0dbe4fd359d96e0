use Rattle.promise_model.proofs.Telling.{kept_is_good, broken_is_step}
use Rattle.promise_model.proofs.verdicts_are_right.Goals as goal

pub returns-clause-kept : goal.returns-clause-kept
returns-clause-kept c = kept_is_good

pub returns-clause-broken : goal.returns-clause-broken
returns-clause-broken c = broken_is_step
