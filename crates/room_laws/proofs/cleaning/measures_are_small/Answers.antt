use Rattle.room_laws.proofs.Stops.{measure_is_small}
use Rattle.room_laws.proofs.cleaning.measures_are_small.Goals as goal

pub returns : goal.returns
returns c = measure_is_small
