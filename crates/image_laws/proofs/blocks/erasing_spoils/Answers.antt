use Rattle.image_laws.proofs.MixedBlocks.{scrambled-lacks}
use Rattle.image_laws.proofs.blocks.erasing_spoils.Goals as goal

pub returns : goal.returns
returns c = scrambled-lacks
