use Rattle.doubled_ids.proofs.Neat.{none_doubled, one_doubled}
use Rattle.doubled_ids.proofs.laws.neat_volumes_double_none.Goals as goal

pub returns-clause-none : goal.returns-clause-none
returns-clause-none c = none_doubled

pub returns-clause-one : goal.returns-clause-one
returns-clause-one c = one_doubled
