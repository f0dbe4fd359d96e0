use Rattle.fd_table.specs.Slots.{without_file}
use Rattle.fd_table.proofs.Held.{IsChanged}
use Rattle.fd_table.proofs.slots.close_file.Given as goal

abbrev pub invariant-loop-slot : goal.invariant-loop-slot
invariant-loop-slot l = IsChanged (without_file l.id) l.initial.slots l.slots l.slot-index
