use Rattle.renew_laws.proofs.AppendTidy.{appending-tidies, appending-is_sound}
use Rattle.renew_laws.proofs.RenewTidy.{renewed-tidies}
use Rattle.renew_laws.proofs.appending.appending_tidies.Goals as goal

pub returns-clause-beside : goal.returns-clause-beside
returns-clause-beside c = appending-tidies

pub returns-clause-renewed : goal.returns-clause-renewed
returns-clause-renewed c = renewed-tidies

pub returns-clause-sound : goal.returns-clause-sound
returns-clause-sound c = appending-is_sound
