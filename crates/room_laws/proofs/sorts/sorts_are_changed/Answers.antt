use Rattle.room_laws.proofs.Sorted.{sorts_change, sorts_are_counted, other_sorts_stay, sorts_at_block, sorts_beside}
use Rattle.room_laws.proofs.sorts.sorts_are_changed.Goals as goal

pub returns-clause-own : goal.returns-clause-own
returns-clause-own c = sorts_change

pub returns-clause-counted : goal.returns-clause-counted
returns-clause-counted c = sorts_are_counted

pub returns-clause-others : goal.returns-clause-others
returns-clause-others c = other_sorts_stay

pub returns-clause-at : goal.returns-clause-at
returns-clause-at c = sorts_at_block

pub returns-clause-beside : goal.returns-clause-beside
returns-clause-beside c = sorts_beside
