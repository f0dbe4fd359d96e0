use Rattle.call_model.proofs.Room.{room_kept}
use Rattle.call_model.proofs.capacity.room_stays.Goals as goal

pub returns : goal.returns
returns c = room_kept
