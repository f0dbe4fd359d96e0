use Rattle.tree_paths.proofs.Apart.{all_apart}
use Rattle.tree_paths.proofs.laws.files_are_no_folders.Goals as goal

pub returns : goal.returns
returns c = all_apart
