use Rattle.room_laws.proofs.Taken.{kinds_are_tested, places_are_by, places_are_found}
use Rattle.room_laws.proofs.taking.tests_tell_places.Goals as goal

pub returns-clause-kinds : goal.returns-clause-kinds
returns-clause-kinds c = kinds_are_tested

pub returns-clause-places : goal.returns-clause-places
returns-clause-places c = places_are_by

pub returns-clause-found : goal.returns-clause-found
returns-clause-found c = places_are_found
