use Rattle.std.proofs.Common.{◌-◌, arith}
use Rattle.fd_table.specs.Slots.{descriptors, put_at}
use Rattle.fd_table.proofs.Held.{held_set}
use Rattle.fd_table.proofs.slots.put.Goals as goal

pub returns : goal.returns
unfolding descriptors put_at
returns c = rw c.from.ensures (held_set 65535 c.args.slots.now (c.args.fd - 1) c.args.slot (omega arith))
