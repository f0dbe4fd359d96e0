use Rattle.volume_detect.proofs.Fronts.{front_found}
use Rattle.volume_detect.proofs.finding.front_volumes_are_found.Goals as goal

pub returns : goal.returns
returns c = front_found
