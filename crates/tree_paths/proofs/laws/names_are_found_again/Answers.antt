use Rattle.tree_paths.proofs.Found.{name_back}
use Rattle.tree_paths.proofs.laws.names_are_found_again.Goals as goal

pub returns : goal.returns
returns c = name_back
