use Rattle.room_laws.proofs.Stops.{reserve_can_clean, reserve_fits_each}
use Rattle.room_laws.proofs.stopping.reserve_is_enough.Goals as goal

pub returns-clause-can : goal.returns-clause-can
returns-clause-can c = reserve_can_clean

pub returns-clause-fits : goal.returns-clause-fits
returns-clause-fits c = reserve_fits_each
