use Rattle.room_laws.proofs.Orders.{stays_start, stays_set, stays_end}
use Rattle.room_laws.proofs.steps.steps_keep_data.Goals as goal

pub returns-clause-start : goal.returns-clause-start
returns-clause-start c = stays_start

pub returns-clause-set : goal.returns-clause-set
returns-clause-set c = stays_set

pub returns-clause-end : goal.returns-clause-end
returns-clause-end c = stays_end
