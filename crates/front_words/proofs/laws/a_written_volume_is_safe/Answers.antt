use Rattle.front_words.proofs.Written.{settled_safe}
use Rattle.front_words.proofs.laws.a_written_volume_is_safe.Goals as goal

pub returns : goal.returns
returns c = settled_safe
