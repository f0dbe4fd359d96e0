use Rattle.header_laws.proofs.AddsUp.{put-adds, new-adds}
use Rattle.header_laws.proofs.LeastIds.{create-room}
use Rattle.header_laws.proofs.room.files_add_up.Goals as goal

pub returns-clause-put : goal.returns-clause-put
returns-clause-put c = put-adds

pub returns-clause-new : goal.returns-clause-new
returns-clause-new c = new-adds

pub returns-clause-room : goal.returns-clause-room
returns-clause-room c = create-room
