use Rattle.std.proofs.Common.{refl}
use Rattle.volume.proofs.volume.Volume.resume.Goals as goal

pub returns-then-ne-clause-unmounted : goal.returns-then-ne-clause-unmounted
returns-then-ne-clause-unmounted g c = λ no. (refl, refl)
