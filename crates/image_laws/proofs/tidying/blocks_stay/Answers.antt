use Rattle.image_laws.proofs.TidySteps.{programs-agree}
use Rattle.image_laws.proofs.FreeBlocks.{free_blocks-fall, used-is_not_free}
use Rattle.image_laws.proofs.StillFree.{live-used}
use Rattle.image_laws.proofs.tidying.blocks_stay.Goals as goal

pub returns-clause-agree : goal.returns-clause-agree
returns-clause-agree c = programs-agree

pub returns-clause-fall : goal.returns-clause-fall
returns-clause-fall c = free_blocks-fall

pub returns-clause-used : goal.returns-clause-used
returns-clause-used c = used-is_not_free

pub returns-clause-live : goal.returns-clause-live
returns-clause-live c = live-used
