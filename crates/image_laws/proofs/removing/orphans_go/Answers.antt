use Rattle.image_laws.proofs.RemoveTidy.{orphan-kills, dead-kills, orphans-end}
use Rattle.image_laws.proofs.removing.orphans_go.Goals as goal

pub returns-clause-live : goal.returns-clause-live
returns-clause-live c = orphan-kills

pub returns-clause-dead : goal.returns-clause-dead
returns-clause-dead c = dead-kills

pub returns-clause-end : goal.returns-clause-end
returns-clause-end c = orphans-end
