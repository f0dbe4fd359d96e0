use Rattle.renew_laws.proofs.PrimeRenew.{primed-renews}
use Rattle.renew_laws.proofs.priming.primed_renews.Goals as goal

pub returns : goal.returns
returns c = primed-renews
