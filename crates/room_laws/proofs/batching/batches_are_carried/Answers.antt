use Rattle.room_laws.proofs.BatchPuts.{carrying_starts, carrying_is_counted, carrying_places, carrying_puts}
use Rattle.room_laws.proofs.batching.batches_are_carried.Goals as goal

pub returns-clause-starts : goal.returns-clause-starts
returns-clause-starts c = carrying_starts

pub returns-clause-counted : goal.returns-clause-counted
returns-clause-counted c = carrying_is_counted

pub returns-clause-places : goal.returns-clause-places
returns-clause-places c = carrying_places

pub returns-clause-puts : goal.returns-clause-puts
returns-clause-puts c = carrying_puts
