use Rattle.tree_paths.proofs.Found.{path_inside}
use Rattle.tree_paths.proofs.laws.paths_stay_inside.Goals as goal

pub returns : goal.returns
returns c = path_inside
