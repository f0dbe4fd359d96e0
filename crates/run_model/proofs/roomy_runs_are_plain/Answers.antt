use Rattle.run_model.proofs.Rooms.{roomy_plain}
use Rattle.run_model.proofs.roomy_runs_are_plain.Goals as goal

pub returns : goal.returns
returns c = roomy_plain
