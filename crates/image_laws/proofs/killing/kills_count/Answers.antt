use Rattle.image_laws.proofs.Unwanted.{kill-counts, unwanted-leaves}
use Rattle.image_laws.proofs.killing.kills_count.Goals as goal

pub returns-clause-counts : goal.returns-clause-counts
returns-clause-counts c = kill-counts

pub returns-clause-unwanted : goal.returns-clause-unwanted
returns-clause-unwanted c = unwanted-leaves
