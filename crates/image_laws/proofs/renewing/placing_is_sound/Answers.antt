use Rattle.image_laws.proofs.PutStep.{placing-is_sound}
use Rattle.image_laws.proofs.renewing.placing_is_sound.Goals as goal

pub returns : goal.returns
returns c = placing-is_sound
