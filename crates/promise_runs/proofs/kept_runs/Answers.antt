use Rattle.promise_runs.proofs.Runs.{runs_keep}
use Rattle.promise_runs.proofs.kept_runs.Goals as goal

pub returns : goal.returns
returns g c = λ geometry. runs_keep _ _ geometry
