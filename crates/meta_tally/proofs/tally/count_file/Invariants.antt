-- By the numbers of meta bytes below `meta` the file was counted.
use Rattle.meta_tally.proofs.Tallies.{TallyTo}
use Rattle.meta_tally.proofs.tally.count_file.Given as goal

abbrev pub invariant-loop-meta : goal.invariant-loop-meta
invariant-loop-meta l = TallyTo l.g l.image l.p l.meta l.fn.whole l.whole
