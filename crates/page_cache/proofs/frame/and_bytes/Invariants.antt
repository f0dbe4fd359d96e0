use Rattle.std.proofs.Common.{ℕ, ◌≡◌, ◌<◌, ◌≤◌}
use Rattle.std.specs.Prelude.{slice_index, bit_and}
use Rattle.page_cache.proofs.frame.and_bytes.Given as goal

abbrev pub invariant-loop-k : goal.invariant-loop-k
invariant-loop-k l = record {
  done : (j : ℕ) → j < l.k → slice_index l.bytes j ≡ bit_and (slice_index l.fn.bytes j) (slice_index l.others j);
  rest : (j : ℕ) → l.k ≤ j → slice_index l.bytes j ≡ slice_index l.fn.bytes j;
}
