use Rattle.room_laws.proofs.Bounding.{reserve_fits, last_free_fits}
use Rattle.room_laws.proofs.volumes.blocks_fit.Goals as goal

pub returns-clause-all : goal.returns-clause-all
returns-clause-all c = reserve_fits

pub returns-clause-one : goal.returns-clause-one
returns-clause-one c = last_free_fits
