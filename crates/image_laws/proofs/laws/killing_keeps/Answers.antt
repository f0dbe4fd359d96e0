use Rattle.image_laws.proofs.Kill.{killing-keeps, entry-keeps, killing-retires}
use Rattle.image_laws.proofs.laws.killing_keeps.Goals as goal

pub returns-clause-deleting : goal.returns-clause-deleting
returns-clause-deleting c = killing-keeps

pub returns-clause-entry : goal.returns-clause-entry
returns-clause-entry c = entry-keeps

pub returns-clause-retires : goal.returns-clause-retires
returns-clause-retires c = killing-retires
