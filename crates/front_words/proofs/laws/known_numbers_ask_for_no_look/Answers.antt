use Rattle.front_words.proofs.Keeping.{settled_alone}
use Rattle.front_words.proofs.laws.known_numbers_ask_for_no_look.Goals as goal

pub returns : goal.returns
returns c = settled_alone
