use Rattle.header_laws.proofs.HeadPages.{has-ids, headers-within, next-is}
use Rattle.header_laws.proofs.ids.ids_are_told.Goals as goal

pub returns-clause-has : goal.returns-clause-has
returns-clause-has c = has-ids

pub returns-clause-within : goal.returns-clause-within
returns-clause-within c = headers-within

pub returns-clause-next : goal.returns-clause-next
returns-clause-next c = next-is
