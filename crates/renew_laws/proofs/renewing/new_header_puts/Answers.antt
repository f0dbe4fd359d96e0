use Rattle.renew_laws.proofs.NewHeader.{new_head-cuts, new_head-tidies}
use Rattle.renew_laws.proofs.renewing.new_header_puts.Goals as goal

pub returns-clause-cuts : goal.returns-clause-cuts
returns-clause-cuts c = new_head-cuts

pub returns-clause-tidy : goal.returns-clause-tidy
returns-clause-tidy c = new_head-tidies
