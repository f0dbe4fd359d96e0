use Rattle.image_laws.proofs.Finished.{finished-programmed}
use Rattle.image_laws.proofs.renewing.finished_is_programmed.Goals as goal

pub returns : goal.returns
returns c = finished-programmed
