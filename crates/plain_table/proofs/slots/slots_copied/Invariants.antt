-- The descriptors so far.
use Rattle.std.proofs.Common.{◌≡◌, map, take}
use Rattle.plain_table.specs.Seen.{held}
use Rattle.plain_table.proofs.slots.slots_copied.Given as goal

abbrev pub invariant-loop-slot : goal.invariant-loop-slot
invariant-loop-slot l = map held l.copies.items ≡ map held (take l.slot-index l.slots)
