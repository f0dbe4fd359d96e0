use Rattle.meta_laws.proofs.Fewer.{other_reads_fewer}
use Rattle.meta_laws.proofs.telling.one_meta_reads.Goals as goal

pub returns : goal.returns
returns c = other_reads_fewer
