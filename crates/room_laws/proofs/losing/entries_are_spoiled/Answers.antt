use Rattle.room_laws.proofs.Loses.{spoils_none, spoils_one, spoils_on}
use Rattle.room_laws.proofs.losing.entries_are_spoiled.Goals as goal

pub returns-clause-none : goal.returns-clause-none
returns-clause-none c = spoils_none

pub returns-clause-one : goal.returns-clause-one
returns-clause-one c = spoils_one

pub returns-clause-on : goal.returns-clause-on
returns-clause-on c = spoils_on
