use Rattle.room_laws.proofs.ThreesFree.{three_cut_mends, three_leave_two}
use Rattle.room_laws.proofs.volumes.three_free_are_enough.Goals as goal

pub returns-clause-cut : goal.returns-clause-cut
returns-clause-cut c = three_cut_mends

pub returns-clause-done : goal.returns-clause-done
returns-clause-done c = three_leave_two
