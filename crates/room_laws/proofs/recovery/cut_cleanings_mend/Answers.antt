use Rattle.room_laws.proofs.Recovering.{still_mends, index_way_mends}
use Rattle.room_laws.proofs.BatchMends.{pages_way_mend, batch_way_mends}
use Rattle.room_laws.proofs.FreshMends.{fresh_way_mends}
use Rattle.room_laws.proofs.recovery.cut_cleanings_mend.Goals as goal

pub returns-clause-still : goal.returns-clause-still
returns-clause-still c = still_mends

pub returns-clause-index : goal.returns-clause-index
returns-clause-index c = index_way_mends

pub returns-clause-pages : goal.returns-clause-pages
returns-clause-pages c = pages_way_mend

pub returns-clause-batch : goal.returns-clause-batch
returns-clause-batch c = batch_way_mends

pub returns-clause-fresh : goal.returns-clause-fresh
returns-clause-fresh c = fresh_way_mends
