use Rattle.script_run.proofs.Taken.{cuts_mount, cuts_taken}
use Rattle.script_run.proofs.laws.cuts_are_taken.Goals as goal

pub returns-clause-mounts : goal.returns-clause-mounts
returns-clause-mounts c = cuts_mount

pub returns-clause-takes : goal.returns-clause-takes
returns-clause-takes c = cuts_taken
