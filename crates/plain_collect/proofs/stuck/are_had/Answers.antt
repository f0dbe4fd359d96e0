use Rattle.std.proofs.Common.{refl}
use Rattle.image_model.specs.Collect.{are_had}
use Rattle.plain_collect.proofs.stuck.are_had.Goals as goal

pub returns : goal.returns
unfolding are_had
returns c = rw (c.blocks_for_kind-for_index.ensures.value, c.blocks_for_kind-for_data.ensures.value, c.from.ensures, c.saturating_sub.ensures, c.free_blocks.ensures, c.free_of.ensures, c.free_of-2.ensures) refl
