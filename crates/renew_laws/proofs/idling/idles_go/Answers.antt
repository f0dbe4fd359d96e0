use Rattle.renew_laws.proofs.IdleKill.{idle-kills, idles-end}
use Rattle.renew_laws.proofs.idling.idles_go.Goals as goal

pub returns-clause-kill : goal.returns-clause-kill
returns-clause-kill c = idle-kills

pub returns-clause-end : goal.returns-clause-end
returns-clause-end c = idles-end
