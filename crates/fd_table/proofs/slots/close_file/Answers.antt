use Rattle.std.proofs.Common.{arith}
use Rattle.fd_table.specs.Slots.{descriptors, without_file}
use Rattle.fd_table.proofs.Held.{changed_more, changed_all}
use Rattle.fd_table.proofs.slots.close_file.Goals as goal

pub loop-slot-preserved : goal.loop-slot-preserved
loop-slot-preserved c = changed_more (without_file c.args.id) c.args.slots.now c.loop-slot.slots c.loop-slot.slot-index _ _ (omega arith) (omega arith) c.without.ensures c.loop-slot.invariant

pub returns : goal.returns
unfolding descriptors
returns c = changed_all 65535 (without_file c.args.id) c.args.slots.now c.loop-slot.slots c.loop-slot.slot-index (omega arith) c.loop-slot.invariant
