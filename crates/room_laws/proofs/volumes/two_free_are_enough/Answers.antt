use Rattle.room_laws.proofs.TwosFree.{two_cut_mends, two_leave_one, two_leave_two, spare_is_needed}
use Rattle.room_laws.proofs.volumes.two_free_are_enough.Goals as goal

pub returns-clause-cut : goal.returns-clause-cut
returns-clause-cut c = two_cut_mends

pub returns-clause-done : goal.returns-clause-done
returns-clause-done c = two_leave_one

pub returns-clause-index : goal.returns-clause-index
returns-clause-index c = two_leave_two

pub returns-clause-spare : goal.returns-clause-spare
returns-clause-spare c = spare_is_needed
