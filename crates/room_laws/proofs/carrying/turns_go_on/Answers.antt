use Rattle.room_laws.proofs.Carried.{begins_between, fits_has_places, batch_has_places, index_goes_on, batch_goes_on}
use Rattle.room_laws.proofs.carrying.turns_go_on.Goals as goal

pub returns-clause-begins : goal.returns-clause-begins
returns-clause-begins c = begins_between

pub returns-clause-fits : goal.returns-clause-fits
returns-clause-fits c = fits_has_places

pub returns-clause-within : goal.returns-clause-within
returns-clause-within c = batch_has_places

pub returns-clause-index : goal.returns-clause-index
returns-clause-index c = index_goes_on

pub returns-clause-batch : goal.returns-clause-batch
returns-clause-batch c = batch_goes_on
