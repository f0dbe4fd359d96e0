use Rattle.image_laws.proofs.Tally.{neat-counts}
use Rattle.image_laws.proofs.Unshared.{none-shared, sound-unshared, neat-unshared}
use Rattle.image_laws.proofs.sharing.unshared_is_tidy.Goals as goal

pub returns-clause-counts : goal.returns-clause-counts
returns-clause-counts c = neat-counts

pub returns-clause-unmixed : goal.returns-clause-unmixed
returns-clause-unmixed c = none-shared

pub returns-clause-sound : goal.returns-clause-sound
returns-clause-sound c = sound-unshared

pub returns-clause-tidy : goal.returns-clause-tidy
returns-clause-tidy c = neat-unshared
