use Rattle.volume.proofs.Cleanings.{aims_step}
use Rattle.volume.proofs.collecting.clean_for.Goals as goal

pub returns-in-Step : goal.returns-in-Step
returns-in-Step g c = rw c.in-Step.is (aims_step {nor = g.N.NorState} {old = c.args.v.now} (g.met.N.Nor.sized _) c.gc_step.ensures)
