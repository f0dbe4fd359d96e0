use Rattle.image_laws.proofs.TidySteps.{tidy-is_tidy, placing_entry-tidy, placing_page-tidy, finishing-tidies, killing-tidy, killed-tidies}
use Rattle.image_laws.proofs.tidying.steps_tidy.Goals as goal

pub returns-clause-whole : goal.returns-clause-whole
returns-clause-whole c = tidy-is_tidy

pub returns-clause-entry : goal.returns-clause-entry
returns-clause-entry c = placing_entry-tidy

pub returns-clause-page : goal.returns-clause-page
returns-clause-page c = placing_page-tidy

pub returns-clause-finishing : goal.returns-clause-finishing
returns-clause-finishing c = finishing-tidies

pub returns-clause-killing : goal.returns-clause-killing
returns-clause-killing c = killing-tidy

pub returns-clause-killed : goal.returns-clause-killed
returns-clause-killed c = killed-tidies
