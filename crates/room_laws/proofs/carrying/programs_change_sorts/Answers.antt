use Rattle.room_laws.proofs.Carried.{put_sorts, kill_sorts}
use Rattle.room_laws.proofs.carrying.programs_change_sorts.Goals as goal

pub returns-clause-put : goal.returns-clause-put
returns-clause-put c = put_sorts

pub returns-clause-kill : goal.returns-clause-kill
returns-clause-kill c = kill_sorts
