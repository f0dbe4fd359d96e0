-- The files of the pages below p are counted, and their names noted.
use Rattle.meta_tally.specs.Names.{Noted}
use Rattle.meta_tally.specs.Counted.{Tallied}
use Rattle.meta_tally.proofs.tally.count_pages.Given as goal

abbrev pub invariant-loop-p : goal.invariant-loop-p
invariant-loop-p l = record {
  noted : Noted l.g l.image l.p l.names;
  tallied : Tallied l.g l.image l.p l.whole;
}
