use Rattle.call_model.proofs.After.{settled-among}
use Rattle.call_model.proofs.windows.tables_are_among.Goals as goal

pub returns : goal.returns
returns c = settled-among
