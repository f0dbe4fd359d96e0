use Rattle.room_laws.proofs.Stops.{unstuck_has_no_worth, no_worth_is_packed, unstuck_has_pages}
use Rattle.room_laws.proofs.stopping.unstuck_is_enough.Goals as goal

pub returns-clause-worth : goal.returns-clause-worth
returns-clause-worth c = unstuck_has_no_worth

pub returns-clause-packed : goal.returns-clause-packed
returns-clause-packed c = no_worth_is_packed

pub returns-clause-had : goal.returns-clause-had
returns-clause-had c = unstuck_has_pages
