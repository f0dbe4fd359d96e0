use Rattle.std.proofs.Common.{arith}
use Rattle.geometry.proofs.Bounds.{volume_small}
use Rattle.image_picture.proofs.Inside.{slot_inside}
use Rattle.image_picture.proofs.looking.slot_start.Goals as goal

pub overflow_mul-result-2 : goal.overflow_mul-result-2
overflow_mul-result-2 c = let inside = slot_inside c.args.g.now c.args.block c.args.i c.requires.block c.requires.slot in omega (arith, inside, volume_small c.args.g.now)

pub overflow_add-result : goal.overflow_add-result
overflow_add-result c = let inside = slot_inside c.args.g.now c.args.block c.args.i c.requires.block c.requires.slot in rw c.block.ensures (omega (arith, inside, volume_small c.args.g.now))

pub returns-clause-inside : goal.returns-clause-inside
returns-clause-inside c = let inside = slot_inside c.args.g.now c.args.block c.args.i c.requires.block c.requires.slot in rw c.block.ensures (omega (arith, inside))
