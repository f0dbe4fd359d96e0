use Rattle.volume_detect.proofs.Numbered.{has_place}
use Rattle.volume_detect.proofs.finding.candidates_have_places.Goals as goal

pub returns : goal.returns
returns c = has_place
