use Rattle.renew_laws.proofs.Leading.{renamed-leads}
use Rattle.renew_laws.proofs.RenewTidy.{rename-tidies}
use Rattle.renew_laws.proofs.renewing.renaming_tidies.Goals as goal

pub returns-clause-leads : goal.returns-clause-leads
returns-clause-leads c = renamed-leads

pub returns-clause-tidy : goal.returns-clause-tidy
returns-clause-tidy c = rename-tidies
