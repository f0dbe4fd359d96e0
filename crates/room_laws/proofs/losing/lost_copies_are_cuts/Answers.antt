use Rattle.room_laws.proofs.Loses.{emptying_is_cut, index_lost_is_cut, pages_lost_are_cut, dead_is_cut}
use Rattle.room_laws.proofs.losing.lost_copies_are_cuts.Goals as goal

pub returns-clause-whole : goal.returns-clause-whole
returns-clause-whole c = emptying_is_cut

pub returns-clause-index : goal.returns-clause-index
returns-clause-index c = index_lost_is_cut

pub returns-clause-pages : goal.returns-clause-pages
returns-clause-pages c = pages_lost_are_cut

pub returns-clause-dead : goal.returns-clause-dead
returns-clause-dead c = dead_is_cut
