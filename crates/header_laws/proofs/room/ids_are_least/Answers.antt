use Rattle.header_laws.proofs.LeastIds.{least-unused, least-first}
use Rattle.header_laws.proofs.room.ids_are_least.Goals as goal

pub returns-clause-unused : goal.returns-clause-unused
returns-clause-unused c = least-unused

pub returns-clause-first : goal.returns-clause-first
returns-clause-first c = least-first
