use Rattle.header_laws.proofs.HeadNames.{named, has-names}
use Rattle.header_laws.proofs.ids.names_are_told.Goals as goal

pub returns-clause-named : goal.returns-clause-named
returns-clause-named c = named

pub returns-clause-has : goal.returns-clause-has
returns-clause-has c = has-names
