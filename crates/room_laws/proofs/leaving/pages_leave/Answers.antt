use Rattle.room_laws.proofs.Leaves.{emptying_starts, index_leaves, page_leaves, index_renewed}
use Rattle.room_laws.proofs.leaving.pages_leave.Goals as goal

pub returns-clause-starts : goal.returns-clause-starts
returns-clause-starts c = emptying_starts

pub returns-clause-index : goal.returns-clause-index
returns-clause-index c = index_leaves

pub returns-clause-pages : goal.returns-clause-pages
returns-clause-pages c = page_leaves

pub returns-clause-renewed : goal.returns-clause-renewed
returns-clause-renewed c = index_renewed
