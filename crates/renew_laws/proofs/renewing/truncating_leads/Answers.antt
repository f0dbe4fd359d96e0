use Rattle.renew_laws.proofs.Truncating.{truncated-leads}
use Rattle.renew_laws.proofs.LeftPast.{left-is_past}
use Rattle.renew_laws.proofs.renewing.truncating_leads.Goals as goal

pub returns-clause-leads : goal.returns-clause-leads
returns-clause-leads c = truncated-leads

pub returns-clause-left : goal.returns-clause-left
returns-clause-left c = left-is_past
