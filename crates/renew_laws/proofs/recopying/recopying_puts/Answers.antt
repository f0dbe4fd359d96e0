use Rattle.renew_laws.proofs.RecopyCuts.{recopy-cuts}
use Rattle.renew_laws.proofs.RecopyLeaves.{recopy-spares, put-same}
use Rattle.renew_laws.proofs.Leading.{copies-same}
use Rattle.renew_laws.proofs.recopying.recopying_puts.Goals as goal

pub returns-clause-cuts : goal.returns-clause-cuts
returns-clause-cuts c = recopy-cuts

pub returns-clause-spares : goal.returns-clause-spares
returns-clause-spares c = recopy-spares

pub returns-clause-copies : goal.returns-clause-copies
returns-clause-copies c = copies-same

pub returns-clause-same : goal.returns-clause-same
returns-clause-same c = put-same
