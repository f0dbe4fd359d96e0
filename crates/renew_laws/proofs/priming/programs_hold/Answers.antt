use Rattle.renew_laws.proofs.Holding.{fill-holds, name-holds}
use Rattle.renew_laws.proofs.priming.programs_hold.Goals as goal

pub returns-clause-bytes : goal.returns-clause-bytes
returns-clause-bytes c = fill-holds

pub returns-clause-entry : goal.returns-clause-entry
returns-clause-entry c = name-holds
