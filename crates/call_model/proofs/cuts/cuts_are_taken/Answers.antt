use Rattle.call_model.proofs.Mounts.{cuts_keep_magics, cuts_mix_none, cuts_fit}
use Rattle.call_model.proofs.cuts.cuts_are_taken.Goals as goal

pub returns-clause-mounts : goal.returns-clause-mounts
returns-clause-mounts c = cuts_keep_magics

pub returns-clause-unmixed : goal.returns-clause-unmixed
returns-clause-unmixed c = cuts_mix_none

pub returns-clause-fits : goal.returns-clause-fits
returns-clause-fits c = cuts_fit
