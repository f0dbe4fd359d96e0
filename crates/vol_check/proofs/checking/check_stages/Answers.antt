use Rattle.vol_check.proofs.Working.{work_changes}
use Rattle.vol_check.proofs.checking.check_stages.Goals as goal

pub returns-clause-changes : goal.returns-clause-changes
returns-clause-changes g c = work_changes c.in_ok-clean.ensures c.requires.magics c.requires.owned

pub returns-clause-done : goal.returns-clause-done
returns-clause-done g c = λ tells. c.in_ok-clean.ensures.step.ends tells (c.requires.magics tells, c.requires.owned tells)

pub returns-clause-idle : goal.returns-clause-idle
returns-clause-idle g c = λ tells tidy. c.in_ok-clean.ensures.idle tells (c.requires.magics tells) (c.requires.owned tells) tidy

pub returns-in_err-clean-clause-changes : goal.returns-in_err-clean-clause-changes
returns-in_err-clean-clause-changes g c = work_changes c.in_err-clean.ensures c.requires.magics c.requires.owned

pub returns-in_err-clean-clause-idle : goal.returns-in_err-clean-clause-idle
returns-in_err-clean-clause-idle g c = λ tells tidy. c.in_err-clean.ensures.idle tells (c.requires.magics tells) (c.requires.owned tells) tidy
