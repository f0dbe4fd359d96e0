-- What is left from `i` on is the same exactly where the whole is.
use Rattle.std.proofs.Common.{◌≡◌, ◌↔◌, map, length, drop}
use Rattle.plain_image.specs.Seen.{file}
use Rattle.plain_collect.proofs.swept.are_same.Given as goal

abbrev pub invariant-loop-i : goal.invariant-loop-i
invariant-loop-i l = (length l.a ≡ length l.b) × ((map file (drop l.i l.a) ≡ map file (drop l.i l.b)) ↔ (map file l.a ≡ map file l.b))
