use Rattle.renew_laws.proofs.Relinking.{relink-recopies, relink-reads, relink-ends}
use Rattle.renew_laws.proofs.overwriting.relinking_writes.Goals as goal

pub returns-clause-recopies : goal.returns-clause-recopies
returns-clause-recopies c = relink-recopies

pub returns-clause-ends : goal.returns-clause-ends
returns-clause-ends c = relink-ends

pub returns-clause-reads : goal.returns-clause-reads
returns-clause-reads c = relink-reads
