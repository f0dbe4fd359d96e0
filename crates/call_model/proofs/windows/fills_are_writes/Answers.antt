use Rattle.call_model.proofs.After.{fills-as_writes}
use Rattle.call_model.proofs.windows.fills_are_writes.Goals as goal

pub returns : goal.returns
returns c = fills-as_writes
