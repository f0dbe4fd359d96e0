use Rattle.image_laws.proofs.Sounding.{keeps-itself, keeps-on}
use Rattle.image_laws.proofs.sound.keeping_composes.Goals as goal

pub returns-clause-itself : goal.returns-clause-itself
returns-clause-itself c = keeps-itself

pub returns-clause-on : goal.returns-clause-on
returns-clause-on c = keeps-on
