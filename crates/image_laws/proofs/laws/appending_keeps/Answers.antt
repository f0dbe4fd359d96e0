use Rattle.image_laws.proofs.Append.{appending-keeps}
use Rattle.image_laws.proofs.laws.appending_keeps.Goals as goal

pub returns : goal.returns
returns c = appending-keeps
