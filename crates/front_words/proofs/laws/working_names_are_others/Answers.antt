use Rattle.front_words.proofs.Working.{working_again, working_other, working_length}
use Rattle.front_words.proofs.laws.working_names_are_others.Goals as goal

pub returns : goal.returns
returns c = record { again = working_again; other = working_other; length = working_length }
