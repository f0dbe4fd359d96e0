use Rattle.std.proofs.Common.{refl}
use Rattle.flash_trace.proofs.Places.{settled_first}
use Rattle.flash_trace.proofs.place.first_place.Goals as goal

pub returns-clause-at : goal.returns-clause-at
returns-clause-at c = settled_first c.args.case.now _ c.requires.moment c.requires.geometry c.new.ensures.items refl c.in_ok-found.ensures
