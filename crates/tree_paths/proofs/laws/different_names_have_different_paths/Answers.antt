use Rattle.tree_paths.proofs.Found.{name_one}
use Rattle.tree_paths.proofs.laws.different_names_have_different_paths.Goals as goal

pub returns : goal.returns
returns c = name_one
