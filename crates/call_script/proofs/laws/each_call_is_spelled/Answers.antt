use Rattle.call_script.proofs.Spelling.{call_spelled}
use Rattle.call_script.proofs.laws.each_call_is_spelled.Goals as goal

pub returns : goal.returns
returns c = call_spelled
