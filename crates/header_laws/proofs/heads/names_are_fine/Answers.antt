use Rattle.header_laws.proofs.FineNames.{fine-names, new-unused}
use Rattle.header_laws.proofs.HeadNames.{own-unused}
use Rattle.header_laws.proofs.heads.names_are_fine.Goals as goal

pub returns-clause-fine : goal.returns-clause-fine
returns-clause-fine c = fine-names

pub returns-clause-new : goal.returns-clause-new
returns-clause-new c = new-unused

pub returns-clause-own : goal.returns-clause-own
returns-clause-own c = own-unused
