use Rattle.std.proofs.Common.{◌≡◌, ℕ, ◌%◌, ◌<◌, length, get_or}
use Rattle.nor_memory.specs.Picks.{some_cleared}
use Rattle.nor_core.specs.Draws.{number_after, drawn}
use Rattle.nor_memory.proofs.cut.some_cleared_bytes.Given as goal

abbrev pub invariant-loop-i : goal.invariant-loop-i
invariant-loop-i l = record {
  number : l.x ≡ number_after l.seed l.i;
  size : length l.left.items ≡ l.i;
  each : (k : ℕ) → k < l.i → get_or l.left.items k 0 ≡ some_cleared (get_or l.bytes k 0) (get_or l.asked k 0) (drawn l.seed k % 256);
}
