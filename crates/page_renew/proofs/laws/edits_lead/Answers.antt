use Rattle.page_renew.proofs.EditsLead.{grows-in_one, grows-in_many, edit-says, edit-tidies, grow-says, grow-tidies, keeps-entries, names-next}
use Rattle.page_renew.proofs.CutLeft.{cut-leaves}
use Rattle.page_renew.proofs.laws.edits_lead.Goals as goal

pub returns-clause-says : goal.returns-clause-says
returns-clause-says c = edit-says

pub returns-clause-tidies : goal.returns-clause-tidies
returns-clause-tidies c = edit-tidies

pub returns-clause-grows : goal.returns-clause-grows
returns-clause-grows c = grow-says

pub returns-clause-keeps : goal.returns-clause-keeps
returns-clause-keeps c = keeps-entries

pub returns-clause-names : goal.returns-clause-names
returns-clause-names c = names-next

pub returns-clause-cuts : goal.returns-clause-cuts
returns-clause-cuts c = cut-leaves

pub returns-clause-grown : goal.returns-clause-grown
returns-clause-grown c = grow-tidies

pub returns-clause-one : goal.returns-clause-one
returns-clause-one c = grows-in_one

pub returns-clause-many : goal.returns-clause-many
returns-clause-many c = grows-in_many
