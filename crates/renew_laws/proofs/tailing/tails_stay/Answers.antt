use Rattle.renew_laws.proofs.TailSteps.{tail-stays, tail-beside, tail-dropped, tail-copied, tail-readied, tail-grown}
use Rattle.renew_laws.proofs.PrimePlaces.{tail-together}
use Rattle.renew_laws.proofs.tailing.tails_stay.Goals as goal

pub returns-clause-stays : goal.returns-clause-stays
returns-clause-stays c = tail-stays

pub returns-clause-beside : goal.returns-clause-beside
returns-clause-beside c = tail-beside

pub returns-clause-dropped : goal.returns-clause-dropped
returns-clause-dropped c = tail-dropped

pub returns-clause-copied : goal.returns-clause-copied
returns-clause-copied c = tail-copied

pub returns-clause-readied : goal.returns-clause-readied
returns-clause-readied c = tail-readied

pub returns-clause-grown : goal.returns-clause-grown
returns-clause-grown c = tail-grown

pub returns-clause-together : goal.returns-clause-together
returns-clause-together c = tail-together
