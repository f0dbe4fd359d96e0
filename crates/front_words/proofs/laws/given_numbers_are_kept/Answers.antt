use Rattle.front_words.proofs.Keeping.{settled_keeps}
use Rattle.front_words.proofs.laws.given_numbers_are_kept.Goals as goal

pub returns : goal.returns
returns c = settled_keeps
