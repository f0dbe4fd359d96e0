use Rattle.tree_paths.proofs.Found.{short_name, path_back}
use Rattle.tree_paths.proofs.laws.trees_come_back.Goals as goal

pub returns : goal.returns
returns c = record { name = short_name; path = path_back }
