-- The search from `at` on gives the answer.
use Rattle.std.proofs.Common.{◌≡◌, ◌+◌, map, drop}
use Rattle.table_model.specs.Descriptors.{lowest_from, lowest_closed}
use Rattle.plain_table.specs.Seen.{held}
use Rattle.plain_table.proofs.slots.lowest_closed.Given as goal

abbrev pub invariant-loop-at : goal.invariant-loop-at
invariant-loop-at l = lowest_from (l.at + 1) (map held (drop l.at l.slots)) ≡ lowest_closed (map held l.slots)
