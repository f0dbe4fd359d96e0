use Rattle.room_laws.proofs.BatchPuts.{carrying_is_cut, renewing_leaves}
use Rattle.room_laws.proofs.batching.batches_are_cut.Goals as goal

pub returns-clause-pages : goal.returns-clause-pages
returns-clause-pages c = carrying_is_cut

pub returns-clause-index : goal.returns-clause-index
returns-clause-index c = renewing_leaves
