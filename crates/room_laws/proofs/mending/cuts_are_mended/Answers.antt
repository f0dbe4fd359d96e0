use Rattle.room_laws.proofs.Cuts.{cut_mends}
use Rattle.room_laws.proofs.mending.cuts_are_mended.Goals as goal

pub returns : goal.returns
returns c = cut_mends
