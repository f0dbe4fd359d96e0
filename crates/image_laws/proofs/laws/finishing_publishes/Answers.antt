use Rattle.image_laws.proofs.Publish.{finishing-publishes}
use Rattle.image_laws.proofs.laws.finishing_publishes.Goals as goal

pub returns : goal.returns
returns c = finishing-publishes
