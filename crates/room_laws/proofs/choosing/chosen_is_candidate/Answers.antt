use Rattle.room_laws.proofs.Chosen.{none_is_candidate, chosen_is_candidate, chosen_is_plain}
use Rattle.room_laws.proofs.choosing.chosen_is_candidate.Goals as goal

pub returns-clause-none : goal.returns-clause-none
returns-clause-none c = none_is_candidate

pub returns-clause-some : goal.returns-clause-some
returns-clause-some c = chosen_is_candidate

pub returns-clause-plain : goal.returns-clause-plain
returns-clause-plain c = chosen_is_plain
