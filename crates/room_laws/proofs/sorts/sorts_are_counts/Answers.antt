use Rattle.room_laws.proofs.Sorted.{tidy_tells_free, neat_tells_free, counts_by_sorts, all_by_sorts, same_sorts, sorts_are_whole}
use Rattle.room_laws.proofs.sorts.sorts_are_counts.Goals as goal

pub returns-clause-tidy : goal.returns-clause-tidy
returns-clause-tidy c = tidy_tells_free

pub returns-clause-neat : goal.returns-clause-neat
returns-clause-neat c = neat_tells_free

pub returns-clause-block : goal.returns-clause-block
returns-clause-block c = counts_by_sorts

pub returns-clause-all : goal.returns-clause-all
returns-clause-all c = all_by_sorts

pub returns-clause-same : goal.returns-clause-same
returns-clause-same c = same_sorts

pub returns-clause-whole : goal.returns-clause-whole
returns-clause-whole c = sorts_are_whole
