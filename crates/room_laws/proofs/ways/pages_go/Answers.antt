use Rattle.room_laws.proofs.OnTheWay.{way_none, way_put, way_kill, done_leaves}
use Rattle.room_laws.proofs.ways.pages_go.Goals as goal

pub returns-clause-none : goal.returns-clause-none
returns-clause-none c = way_none

pub returns-clause-put : goal.returns-clause-put
returns-clause-put c = way_put

pub returns-clause-kill : goal.returns-clause-kill
returns-clause-kill c = way_kill

pub returns-clause-done : goal.returns-clause-done
returns-clause-done c = done_leaves
