use Rattle.call_script.proofs.Breaks.{line_first, line_last}
use Rattle.call_script.proofs.laws.lines_are_parted.Goals as goal

pub returns : goal.returns
returns c = record { first = line_first; last = line_last }
