use Rattle.room_laws.proofs.Sorted.{tidy_tells_free}
use Rattle.block_gc.proofs.Cleanings.{free_met}
use Rattle.block_gc.proofs.room.has_free.Goals as goal

pub returns-clause-told : goal.returns-clause-told
returns-clause-told g c = λ tells tidy. free_met _ _ c.args.blocks _ (c.in_ok-free_blocks.ensures.looks.told tells (tidy_tells_free _ _ tidy))
