use Rattle.copy_model.proofs.Rooming.{full-here, full-later, full-ends, room-behind, record-full}
use Rattle.copy_model.proofs.rooms.records_have_room.Goals as goal

pub returns-clause-here : goal.returns-clause-here
returns-clause-here c = full-here

pub returns-clause-later : goal.returns-clause-later
returns-clause-later c = full-later

pub returns-clause-ends : goal.returns-clause-ends
returns-clause-ends c = full-ends

pub returns-clause-behind : goal.returns-clause-behind
returns-clause-behind c = room-behind

pub returns-clause-record_full : goal.returns-clause-record_full
returns-clause-record_full c = record-full
