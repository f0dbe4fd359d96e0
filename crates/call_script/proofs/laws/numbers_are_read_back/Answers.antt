use Rattle.call_script.proofs.Reading.{number_read}
use Rattle.call_script.proofs.laws.numbers_are_read_back.Goals as goal

pub returns : goal.returns
returns c = number_read
