use Rattle.room_laws.proofs.Partings.{part_finds, part_puts, part_kills}
use Rattle.room_laws.proofs.parting.shared_pages_part.Goals as goal

pub returns-clause-finds : goal.returns-clause-finds
returns-clause-finds c = part_finds

pub returns-clause-puts : goal.returns-clause-puts
returns-clause-puts c = part_puts

pub returns-clause-kills : goal.returns-clause-kills
returns-clause-kills c = part_kills
