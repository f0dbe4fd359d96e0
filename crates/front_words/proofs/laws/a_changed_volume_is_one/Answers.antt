use Rattle.front_words.proofs.Rivals.{sure_is_one}
use Rattle.front_words.proofs.laws.a_changed_volume_is_one.Goals as goal

pub returns : goal.returns
returns c = sure_is_one
