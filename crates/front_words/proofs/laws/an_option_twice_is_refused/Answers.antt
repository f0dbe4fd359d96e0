use Rattle.front_words.proofs.Refusing.{twice_refused}
use Rattle.front_words.proofs.laws.an_option_twice_is_refused.Goals as goal

pub returns : goal.returns
returns c = twice_refused
