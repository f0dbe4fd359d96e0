use Rattle.call_model.proofs.Writing.{write-is_done, done-is_write, continues-accepted}
use Rattle.call_model.proofs.Empty.{empty-is_done}
use Rattle.call_model.proofs.runs.writes_are_done.Goals as goal

pub returns-clause-done : goal.returns-clause-done
returns-clause-done c = write-is_done

pub returns-clause-only : goal.returns-clause-only
returns-clause-only c = done-is_write

pub returns-clause-empty : goal.returns-clause-empty
returns-clause-empty c = empty-is_done

pub returns-clause-accepted : goal.returns-clause-accepted
returns-clause-accepted c = continues-accepted
