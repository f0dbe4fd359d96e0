use Rattle.room_laws.proofs.Packings.{had_room, stopped_had}
use Rattle.room_laws.proofs.volumes.room_is_exact.Goals as goal

pub returns-clause-needed : goal.returns-clause-needed
returns-clause-needed c = had_room

pub returns-clause-enough : goal.returns-clause-enough
returns-clause-enough c = stopped_had
