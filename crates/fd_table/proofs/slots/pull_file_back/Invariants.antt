use Rattle.fd_table.specs.Slots.{pulled_back}
use Rattle.fd_table.proofs.Held.{IsChanged}
use Rattle.fd_table.proofs.slots.pull_file_back.Given as goal

abbrev pub invariant-loop-slot : goal.invariant-loop-slot
invariant-loop-slot l = IsChanged (pulled_back l.id l.size) l.initial.slots l.slots l.slot-index
