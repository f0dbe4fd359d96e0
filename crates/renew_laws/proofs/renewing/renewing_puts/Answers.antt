use Rattle.renew_laws.proofs.RenewStep.{renew-cuts, renew-spares}
use Rattle.renew_laws.proofs.RenewTidy.{none-left}
use Rattle.renew_laws.proofs.renewing.renewing_puts.Goals as goal

pub returns-clause-cuts : goal.returns-clause-cuts
returns-clause-cuts c = renew-cuts

pub returns-clause-spares : goal.returns-clause-spares
returns-clause-spares c = renew-spares

pub returns-clause-none : goal.returns-clause-none
returns-clause-none c = none-left
