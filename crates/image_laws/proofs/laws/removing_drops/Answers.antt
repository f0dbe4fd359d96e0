use Rattle.image_laws.proofs.Remove.{removing-drops}
use Rattle.image_laws.proofs.Wanted.{unwanted-idle}
use Rattle.image_laws.proofs.laws.removing_drops.Goals as goal

pub returns-clause-removing : goal.returns-clause-removing
returns-clause-removing c = removing-drops

pub returns-clause-unwanted : goal.returns-clause-unwanted
returns-clause-unwanted c = unwanted-idle
