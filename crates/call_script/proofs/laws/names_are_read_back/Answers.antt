use Rattle.call_script.proofs.Reading.{text_read}
use Rattle.call_script.proofs.laws.names_are_read_back.Goals as goal

pub returns : goal.returns
returns c = text_read
