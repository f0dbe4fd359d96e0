use Rattle.renew_laws.proofs.ReserveKept.{put-reserve, kill-reserve, replace-reserve}
use Rattle.renew_laws.proofs.reserving.reserve_stays.Goals as goal

pub returns-clause-put : goal.returns-clause-put
returns-clause-put c = put-reserve

pub returns-clause-kill : goal.returns-clause-kill
returns-clause-kill c = kill-reserve

pub returns-clause-replace : goal.returns-clause-replace
returns-clause-replace c = replace-reserve
