use Rattle.room_laws.proofs.Measures.{cleaning_falls, cleaning_lowers}
use Rattle.room_laws.proofs.volumes.cleanings_end.Goals as goal

pub returns-clause-falls : goal.returns-clause-falls
returns-clause-falls c = cleaning_falls

pub returns-clause-lowers : goal.returns-clause-lowers
returns-clause-lowers c = cleaning_lowers
