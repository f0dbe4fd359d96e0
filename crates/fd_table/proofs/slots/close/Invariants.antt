use Rattle.fd_table.proofs.Held.{IsChanged, none_of}
use Rattle.fd_table.proofs.slots.close.Given as goal

abbrev pub invariant-loop-slot : goal.invariant-loop-slot
invariant-loop-slot l = IsChanged none_of l.initial.slots l.slots l.slot-index
