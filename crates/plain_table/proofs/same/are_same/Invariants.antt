-- The files so far are the same.
use Rattle.std.proofs.Common.{◌≡◌, map, length, take}
use Rattle.plain_table.specs.Seen.{file}
use Rattle.plain_table.proofs.same.are_same.Given as goal

abbrev pub invariant-loop-i : goal.invariant-loop-i
invariant-loop-i l = (length l.a ≡ length l.b) × (map file (take l.i l.a) ≡ map file (take l.i l.b))
