use Rattle.renew_laws.proofs.EntryInPlace.{entry-in_place, entry-in_place-tidies}
use Rattle.renew_laws.proofs.recopying.entries_in_place.Goals as goal

pub returns-clause-keeps : goal.returns-clause-keeps
returns-clause-keeps c = entry-in_place

pub returns-clause-tidy : goal.returns-clause-tidy
returns-clause-tidy c = entry-in_place-tidies
