use Rattle.copy_model.proofs.Stepping.{one-step, one-page}
use Rattle.copy_model.proofs.answers.cuts_are_whole.Goals as goal

pub returns-clause-one : goal.returns-clause-one
returns-clause-one c = one-step

pub returns-clause-page : goal.returns-clause-page
returns-clause-page c = one-page
