use Rattle.room_laws.proofs.Takeovers.{plan_goes_on, plan_loses, plan_lessens, plan_is_cut}
use Rattle.room_laws.proofs.takeover.plans_go_on.Goals as goal

pub returns-clause-done : goal.returns-clause-done
returns-clause-done c = plan_goes_on

pub returns-clause-lost : goal.returns-clause-lost
returns-clause-lost c = plan_loses

pub returns-clause-less : goal.returns-clause-less
returns-clause-less c = plan_lessens

pub returns-clause-cut : goal.returns-clause-cut
returns-clause-cut c = plan_is_cut
