use Rattle.room_laws.proofs.Takeovers.{plan_finds_places, plan_leaves_two}
use Rattle.room_laws.proofs.takeover.plans_find_places.Goals as goal

pub returns-clause-next : goal.returns-clause-next
returns-clause-next c = plan_finds_places

pub returns-clause-end : goal.returns-clause-end
returns-clause-end c = plan_leaves_two
