use Rattle.call_model.proofs.Settling.{ended_at}
use Rattle.call_model.proofs.runs.settled_volumes_stand.Goals as goal

pub returns : goal.returns
returns c = ended_at
