use Rattle.image_laws.proofs.RemoveTidy.{removing-is_sound, removing-leaves}
use Rattle.image_laws.proofs.removing.removing_leaves.Goals as goal

pub returns-clause-cuts : goal.returns-clause-cuts
returns-clause-cuts c = removing-is_sound

pub returns-clause-done : goal.returns-clause-done
returns-clause-done c = removing-leaves
