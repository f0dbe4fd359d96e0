use Rattle.image_laws.proofs.Erase.{block-keeps, spoiled-is_dead}
use Rattle.image_laws.proofs.laws.erasing_keeps.Goals as goal

pub returns-clause-block : goal.returns-clause-block
returns-clause-block c = block-keeps

pub returns-clause-spoiled : goal.returns-clause-spoiled
returns-clause-spoiled c = spoiled-is_dead
