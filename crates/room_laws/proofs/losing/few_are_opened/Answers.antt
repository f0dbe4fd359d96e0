use Rattle.room_laws.proofs.Loses.{opens_few}
use Rattle.room_laws.proofs.losing.few_are_opened.Goals as goal

pub returns : goal.returns
returns c = opens_few
