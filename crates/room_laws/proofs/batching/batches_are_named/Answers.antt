use Rattle.room_laws.proofs.BatchPuts.{renewed_is_batch, killed_is_batch}
use Rattle.room_laws.proofs.batching.batches_are_named.Goals as goal

pub returns-clause-renewed : goal.returns-clause-renewed
returns-clause-renewed c = renewed_is_batch

pub returns-clause-killed : goal.returns-clause-killed
returns-clause-killed c = killed_is_batch
