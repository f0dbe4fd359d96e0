use Rattle.front_words.proofs.Keeping.{settled_reached}
use Rattle.front_words.proofs.laws.volumes_are_in_reach.Goals as goal

pub returns : goal.returns
returns c = settled_reached
