use Rattle.image_laws.proofs.Placing.{placing_entry-keeps, placing_page-keeps}
use Rattle.image_laws.proofs.laws.placing_keeps.Goals as goal

pub returns-clause-entry : goal.returns-clause-entry
returns-clause-entry c = placing_entry-keeps

pub returns-clause-page : goal.returns-clause-page
returns-clause-page c = placing_page-keeps
