use Rattle.copy_model.proofs.Counting.{first-counts, next-counts}
use Rattle.copy_model.proofs.rooms.pages_are_counted.Goals as goal

pub returns-clause-first : goal.returns-clause-first
returns-clause-first c = first-counts

pub returns-clause-next : goal.returns-clause-next
returns-clause-next c = next-counts
