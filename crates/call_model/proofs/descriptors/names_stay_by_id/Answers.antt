use Rattle.call_model.proofs.Names.{names_at}
use Rattle.call_model.proofs.descriptors.names_stay_by_id.Goals as goal

pub returns : goal.returns
returns c = names_at
