-- As many as the turns so far.
use Rattle.std.proofs.Common.{◌≡◌, replicate, map, None}
use Rattle.plain_table.specs.Seen.{held}
use Rattle.plain_table.proofs.slots.all_closed.Given as goal

abbrev pub invariant-loop-i : goal.invariant-loop-i
invariant-loop-i l = map held l.slots.items ≡ replicate l._i None
