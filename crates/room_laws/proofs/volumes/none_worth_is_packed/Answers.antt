use Rattle.room_laws.proofs.Packings.{none_worth_packed}
use Rattle.room_laws.proofs.volumes.none_worth_is_packed.Goals as goal

pub returns : goal.returns
returns c = none_worth_packed
