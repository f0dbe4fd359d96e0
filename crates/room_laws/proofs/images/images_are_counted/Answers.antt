use Rattle.room_laws.proofs.Tallies.{tidy_is_volume, tidy_counts_tell}
use Rattle.room_laws.proofs.images.images_are_counted.Goals as goal

pub returns-clause-volume : goal.returns-clause-volume
returns-clause-volume c = tidy_is_volume

pub returns-clause-tell : goal.returns-clause-tell
returns-clause-tell c = tidy_counts_tell
