use Rattle.room_laws.proofs.Stops.{stopped_has_reserve, stopped_has_no_worth, stopped_has_pages, had_needs_room}
use Rattle.room_laws.proofs.stopping.stopped_is_enough.Goals as goal

pub returns-clause-reserve : goal.returns-clause-reserve
returns-clause-reserve c = stopped_has_reserve

pub returns-clause-worth : goal.returns-clause-worth
returns-clause-worth c = stopped_has_no_worth

pub returns-clause-had : goal.returns-clause-had
returns-clause-had c = stopped_has_pages

pub returns-clause-room : goal.returns-clause-room
returns-clause-room c = had_needs_room
