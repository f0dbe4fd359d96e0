use Rattle.volume.proofs.calls.call_on.Goals.{in-Ok, in-Err}
use Rattle.volume.proofs.calls.call_on.Goals as goal

pub returns-clause-counted : goal.returns-clause-counted
returns-clause-counted g c = elim c.match-answer_in.branch [
  | in-Ok w ↦ rw w.told-is (rw w.in-Ok.is at c.answer_in.ensures.counted)
  | in-Err w ↦ rw w.told-is (rw w.in-Err.is at c.answer_in.ensures.counted)
]
