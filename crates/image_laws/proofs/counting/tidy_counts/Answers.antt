use Rattle.image_laws.proofs.Tally.{tidy-counts}
use Rattle.image_laws.proofs.counting.tidy_counts.Goals as goal

pub returns : goal.returns
returns c = tidy-counts
