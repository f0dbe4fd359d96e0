use Rattle.room_laws.proofs.Recovering.{chosen_may_cut}
use Rattle.room_laws.proofs.recovery.chosen_blocks_may_be_cut.Goals as goal

pub returns : goal.returns
returns c = chosen_may_cut
