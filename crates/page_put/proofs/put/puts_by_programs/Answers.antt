use Rattle.page_put.proofs.Finishing.{programs_place, finish_clears_final}
use Rattle.page_put.proofs.put.puts_by_programs.Goals as goal

pub returns : goal.returns
returns c = record { places = programs_place; finishes = finish_clears_final }
