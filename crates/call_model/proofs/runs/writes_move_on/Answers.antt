use Rattle.call_model.proofs.Waiting.{begun-moment, on-moment}
use Rattle.call_model.proofs.Settling.{direct-moment}
use Rattle.call_model.proofs.runs.writes_move_on.Goals as goal

pub returns-clause-begins : goal.returns-clause-begins
returns-clause-begins c = begun-moment

pub returns-clause-goes_on : goal.returns-clause-goes_on
returns-clause-goes_on c = on-moment

pub returns-clause-direct : goal.returns-clause-direct
returns-clause-direct c = direct-moment
