use Rattle.room_laws.proofs.Staying.{stripped_is_staged, neat_is_stripped, kills_are_stripped}
use Rattle.room_laws.proofs.ways.stages_strip.Goals as goal

pub returns-clause-neat : goal.returns-clause-neat
returns-clause-neat c = neat_is_stripped

pub returns-clause-kills : goal.returns-clause-kills
returns-clause-kills c = kills_are_stripped

pub returns-clause-staged : goal.returns-clause-staged
returns-clause-staged c = stripped_is_staged
