use Rattle.room_laws.proofs.Staying.{reserve_mends}
use Rattle.room_laws.proofs.recovery.reserves_mend.Goals as goal

pub returns : goal.returns
returns c = reserve_mends
