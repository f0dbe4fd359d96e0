use Rattle.copy_model.proofs.Rooming.{steps-kept, steps-full}
use Rattle.copy_model.proofs.rooms.copies_have_room.Goals as goal

pub returns-clause-kept : goal.returns-clause-kept
returns-clause-kept c = steps-kept

pub returns-clause-full : goal.returns-clause-full
returns-clause-full c = steps-full
