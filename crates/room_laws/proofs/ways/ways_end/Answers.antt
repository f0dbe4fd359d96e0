use Rattle.room_laws.proofs.Resolved.{way_resolves, batch_resolves, batch_stays}
use Rattle.room_laws.proofs.ways.ways_end.Goals as goal

pub returns-clause-each : goal.returns-clause-each
returns-clause-each c = way_resolves

pub returns-clause-batch : goal.returns-clause-batch
returns-clause-batch c = batch_resolves

pub returns-clause-stays : goal.returns-clause-stays
returns-clause-stays c = batch_stays
