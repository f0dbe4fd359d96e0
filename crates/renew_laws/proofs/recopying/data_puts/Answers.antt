use Rattle.renew_laws.proofs.Beside.{put_data-cuts, put_data-done}
use Rattle.renew_laws.proofs.recopying.data_puts.Goals as goal

pub returns-clause-cuts : goal.returns-clause-cuts
returns-clause-cuts c = put_data-cuts

pub returns-clause-done : goal.returns-clause-done
returns-clause-done c = put_data-done
