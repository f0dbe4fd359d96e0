use Rattle.image_laws.proofs.LiveStep.{put-changes, kill-changes}
use Rattle.image_laws.proofs.renewing.steps_change.Goals as goal

pub returns-clause-put : goal.returns-clause-put
returns-clause-put c = put-changes

pub returns-clause-kill : goal.returns-clause-kill
returns-clause-kill c = kill-changes
