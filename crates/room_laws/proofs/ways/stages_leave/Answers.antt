use Rattle.room_laws.proofs.Staying.{tidy_is_staged, kills_are_staged}
use Rattle.room_laws.proofs.ways.stages_leave.Goals as goal

pub returns-clause-tidy : goal.returns-clause-tidy
returns-clause-tidy c = tidy_is_staged

pub returns-clause-kills : goal.returns-clause-kills
returns-clause-kills c = kills_are_staged
