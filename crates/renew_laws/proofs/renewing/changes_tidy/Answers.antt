use Rattle.renew_laws.proofs.OneIdTidy.{one_id-is_tidy}
use Rattle.renew_laws.proofs.renewing.changes_tidy.Goals as goal

pub returns : goal.returns
returns c = one_id-is_tidy
