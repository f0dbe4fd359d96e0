use Rattle.copy_model.proofs.Answering.{removes-file, removes-none, stats-file, stats-none, informed, opens-file, opens-none, reads-on}
use Rattle.copy_model.proofs.answers.looking_is_answered.Goals as goal

pub returns-clause-removes : goal.returns-clause-removes
returns-clause-removes c = removes-file

pub returns-clause-removes_none : goal.returns-clause-removes_none
returns-clause-removes_none c = removes-none

pub returns-clause-stats : goal.returns-clause-stats
returns-clause-stats c = stats-file

pub returns-clause-stats_none : goal.returns-clause-stats_none
returns-clause-stats_none c = stats-none

pub returns-clause-informs : goal.returns-clause-informs
returns-clause-informs c = informed

pub returns-clause-opens : goal.returns-clause-opens
returns-clause-opens c = opens-file

pub returns-clause-opens_none : goal.returns-clause-opens_none
returns-clause-opens_none c = opens-none

pub returns-clause-reads : goal.returns-clause-reads
returns-clause-reads c = reads-on
