use Rattle.std.proofs.Common.{refl}
use Rattle.tool_core.proofs.FillEnds.{speaks_none, speaks_whole, speaks_part}
use Rattle.tool_core.proofs.finishing.finish.Goals as goal

pub returns-in-Err-clause-speaks : goal.returns-in-Err-clause-speaks
returns-in-Err-clause-speaks g c = λ h s ready. speaks_none c.in-Err.ending c.settle.ensures.changes.said (c.in-Err.ensures.stops h s ready)

pub returns-in-Ok-clause-speaks : goal.returns-in-Ok-clause-speaks
returns-in-Ok-clause-speaks g c = λ h s ready. speaks_whole refl (c.in_default.ensures.files h s ready) c.settle.ensures.changes.said c.say.ensures.says (c.in-Ok.ensures.done (c.settle.ensures.changes.cuts.told ready.stands.stands.tells))

pub returns-in-Err-say-clause-speaks : goal.returns-in-Err-say-clause-speaks
returns-in-Err-say-clause-speaks g c = λ h s ready. speaks_part refl c.settle.ensures.changes.said c.say.ensures.says
