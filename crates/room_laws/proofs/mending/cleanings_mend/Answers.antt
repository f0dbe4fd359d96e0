use Rattle.room_laws.proofs.Mend.{goes_on, mending_kept}
use Rattle.room_laws.proofs.Orders.{stopped_mended}
use Rattle.room_laws.proofs.mending.cleanings_mend.Goals as goal

pub returns-clause-goes_on : goal.returns-clause-goes_on
returns-clause-goes_on c = goes_on

pub returns-clause-kept : goal.returns-clause-kept
returns-clause-kept c = mending_kept

pub returns-clause-stopped : goal.returns-clause-stopped
returns-clause-stopped c = stopped_mended
