use Rattle.script_run.proofs.Taken.{cut_calls_mend, cut_runs_mend}
use Rattle.script_run.proofs.laws.cut_runs_are_mended.Goals as goal

pub returns-clause-calls : goal.returns-clause-calls
returns-clause-calls g c = λ geometry. cut_calls_mend _ geometry

pub returns-clause-run : goal.returns-clause-run
returns-clause-run g c = λ geometry. cut_runs_mend _ geometry
