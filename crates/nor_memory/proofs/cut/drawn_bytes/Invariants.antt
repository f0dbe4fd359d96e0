use Rattle.std.proofs.Common.{◌≡◌, ℕ, ◌%◌, ◌<◌, length, get_or}
use Rattle.nor_core.specs.Draws.{number_after, drawn}
use Rattle.nor_memory.proofs.cut.drawn_bytes.Given as goal

abbrev pub invariant-loop-i : goal.invariant-loop-i
invariant-loop-i l = record {
  number : l.x ≡ number_after l.seed l.i;
  size : length l.bytes.items ≡ l.i;
  each : (k : ℕ) → k < l.i → get_or l.bytes.items k 0 ≡ drawn l.seed k % 256;
}
