use Rattle.image_laws.proofs.SpareKill.{spare-kills, spares-end, tidy-has_magics}
use Rattle.image_laws.proofs.renewing.spares_go.Goals as goal

pub returns-clause-kill : goal.returns-clause-kill
returns-clause-kill c = spare-kills

pub returns-clause-end : goal.returns-clause-end
returns-clause-end c = spares-end

pub returns-clause-magics : goal.returns-clause-magics
returns-clause-magics c = tidy-has_magics
