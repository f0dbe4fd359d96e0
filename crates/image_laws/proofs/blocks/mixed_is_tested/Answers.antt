use Rattle.image_laws.proofs.MixedBlocks.{mixed-tested}
use Rattle.image_laws.proofs.blocks.mixed_is_tested.Goals as goal

pub returns : goal.returns
returns c = mixed-tested
