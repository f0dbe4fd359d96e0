use Rattle.room_laws.proofs.Moves.{reached_start, reached_index, reached_data, reached_kill, reached_end}
use Rattle.room_laws.proofs.steps.steps_clean.Goals as goal

pub returns-clause-start : goal.returns-clause-start
returns-clause-start c = reached_start

pub returns-clause-index : goal.returns-clause-index
returns-clause-index c = reached_index

pub returns-clause-pages : goal.returns-clause-pages
returns-clause-pages c = reached_data

pub returns-clause-kill : goal.returns-clause-kill
returns-clause-kill c = reached_kill

pub returns-clause-end : goal.returns-clause-end
returns-clause-end c = reached_end
