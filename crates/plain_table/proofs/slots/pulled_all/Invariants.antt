-- The descriptors so far.
use Rattle.std.proofs.Common.{◌≡◌, map, take, length}
use Rattle.table_model.specs.Descriptors.{pulled_back}
use Rattle.plain_table.specs.Seen.{held}
use Rattle.plain_table.proofs.slots.pulled_all.Given as goal

abbrev pub invariant-loop-slot : goal.invariant-loop-slot
invariant-loop-slot l = (map held l.next.items ≡ map (pulled_back l.id l.size) (map held (take l.slot-index l.slots))) × (length l.next.items ≡ l.slot-index)
