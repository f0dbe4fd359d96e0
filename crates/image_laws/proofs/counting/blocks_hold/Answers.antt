use Rattle.image_laws.proofs.BlockCounts.{blocks-split, index-in_others, reserve-room}
use Rattle.image_laws.proofs.counting.blocks_hold.Goals as goal

pub returns-clause-split : goal.returns-clause-split
returns-clause-split c = blocks-split

pub returns-clause-index : goal.returns-clause-index
returns-clause-index c = index-in_others

pub returns-clause-room : goal.returns-clause-room
returns-clause-room c = reserve-room
