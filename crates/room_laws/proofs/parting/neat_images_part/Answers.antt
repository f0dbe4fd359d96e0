use Rattle.room_laws.proofs.NeatCounts.{neat_parts_are_counted}
use Rattle.room_laws.proofs.PartMoves.{part_place_is_found, move_parts_one}
use Rattle.room_laws.proofs.parting.neat_images_part.Goals as goal

pub returns-clause-counted : goal.returns-clause-counted
returns-clause-counted c = neat_parts_are_counted

pub returns-clause-found : goal.returns-clause-found
returns-clause-found c = part_place_is_found

pub returns-clause-moved : goal.returns-clause-moved
returns-clause-moved c = move_parts_one
