use Rattle.room_laws.proofs.Sorted.{blocks_beside, place_can_put}
use Rattle.room_laws.proofs.sorts.places_stand_beside.Goals as goal

pub returns-clause-stands : goal.returns-clause-stands
returns-clause-stands c = blocks_beside

pub returns-clause-put : goal.returns-clause-put
returns-clause-put c = place_can_put
