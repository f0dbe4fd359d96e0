use Rattle.image_laws.proofs.Headless.{headless-is_idle, uncounted-leaves}
use Rattle.image_laws.proofs.Doubled.{doubled-keeps}
use Rattle.image_laws.proofs.DamagedHead.{damaged_head-keeps}
use Rattle.image_laws.proofs.staging.index_stage_keeps.Goals as goal

pub returns-clause-doubled : goal.returns-clause-doubled
returns-clause-doubled c = doubled-keeps

pub returns-clause-damaged : goal.returns-clause-damaged
returns-clause-damaged c = damaged_head-keeps

pub returns-clause-headless : goal.returns-clause-headless
returns-clause-headless c = headless-is_idle

pub returns-clause-uncounted : goal.returns-clause-uncounted
returns-clause-uncounted c = uncounted-leaves
