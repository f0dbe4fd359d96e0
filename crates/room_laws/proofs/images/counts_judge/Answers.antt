use Rattle.room_laws.proofs.Judged.{worth_is_tested, fits_is_tested, had_is_tested}
use Rattle.room_laws.proofs.images.counts_judge.Goals as goal

pub returns-clause-worth : goal.returns-clause-worth
returns-clause-worth c = worth_is_tested

pub returns-clause-fits : goal.returns-clause-fits
returns-clause-fits c = fits_is_tested

pub returns-clause-had : goal.returns-clause-had
returns-clause-had c = had_is_tested
