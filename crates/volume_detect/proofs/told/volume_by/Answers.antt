use Rattle.std.proofs.Common.{refl}
use Rattle.volume_detect.proofs.Tellings.{by_none, by_row, by_no_row}
use Rattle.volume_detect.proofs.told.volume_by.Goals as goal

pub returns-in-None : goal.returns-in-None
returns-in-None c = by_none c.args.words.now c.args.first c.args.step c.args.page c.args.block c.args.room c.args.blocks (c.in-None.ensures.refused refl)

pub returns-then-is_row : goal.returns-then-is_row
returns-then-is_row c = by_row c.args.words.now c.args.first c.args.step c.args.page c.args.block c.args.room c.args.blocks c.in-Some.g c.in-Some.ensures.made c.if-blocks-room.false (c.is_row.ensures.row c.if-is_row.true)

pub returns-else-is_row : goal.returns-else-is_row
returns-else-is_row c = by_no_row c.args.words.now c.args.first c.args.step c.args.page c.args.block c.args.room c.args.blocks c.in-Some.g c.in-Some.ensures.made c.if-blocks-room.false (c.is_row.ensures.none c.if-is_row.false)
