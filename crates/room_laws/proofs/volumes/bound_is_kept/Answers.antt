use Rattle.room_laws.proofs.Bounding.{reserve_bound, bound_kept}
use Rattle.room_laws.proofs.volumes.bound_is_kept.Goals as goal

pub returns-clause-reserve : goal.returns-clause-reserve
returns-clause-reserve c = reserve_bound

pub returns-clause-kept : goal.returns-clause-kept
returns-clause-kept c = bound_kept
