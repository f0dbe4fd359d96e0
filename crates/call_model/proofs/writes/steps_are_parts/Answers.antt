use Rattle.call_model.proofs.Parts.{among-steps, steps-among, whole-among}
use Rattle.call_model.proofs.writes.steps_are_parts.Goals as goal

pub returns-clause-step : goal.returns-clause-step
returns-clause-step c = among-steps

pub returns-clause-part : goal.returns-clause-part
returns-clause-part c = steps-among

pub returns-clause-whole : goal.returns-clause-whole
returns-clause-whole c = whole-among
