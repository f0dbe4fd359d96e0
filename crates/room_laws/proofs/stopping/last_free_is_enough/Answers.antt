use Rattle.room_laws.proofs.Stops.{last_free_is_plain, never_stuck}
use Rattle.room_laws.proofs.stopping.last_free_is_enough.Goals as goal

pub returns-clause-plain : goal.returns-clause-plain
returns-clause-plain c = last_free_is_plain

pub returns-clause-stuck : goal.returns-clause-stuck
returns-clause-stuck c = never_stuck
