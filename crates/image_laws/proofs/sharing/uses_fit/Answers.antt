use Rattle.image_laws.proofs.Unshared.{fits-tested}
use Rattle.image_laws.proofs.Uses.{same-uses-fit}
use Rattle.image_laws.proofs.sharing.uses_fit.Goals as goal

pub returns-clause-tested : goal.returns-clause-tested
returns-clause-tested c = fits-tested

pub returns-clause-same : goal.returns-clause-same
returns-clause-same c = same-uses-fit
