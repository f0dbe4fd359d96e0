use Rattle.call_model.proofs.Parts.{written_on, written_next}
use Rattle.call_model.proofs.writes.writes_join.Goals as goal

pub returns-clause-on : goal.returns-clause-on
returns-clause-on c = written_on

pub returns-clause-next : goal.returns-clause-next
returns-clause-next c = written_next
