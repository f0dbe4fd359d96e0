use Rattle.std.proofs.Common.{inr}
use Rattle.volume.proofs.volume.Volume.refill.Goals as goal

pub returns-clause-lost : goal.returns-clause-lost
returns-clause-lost g c = λ used lost. inr (c.fill.ensures.lost lost)
