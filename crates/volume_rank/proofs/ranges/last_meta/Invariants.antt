-- By each number below as many are whole.
use Rattle.std.proofs.Common.{◌≡◌, ◌<◌, ℕ, slice_index}
use Rattle.volume_rank.proofs.ranges.last_meta.Given as goal

abbrev pub invariant-loop-meta : goal.invariant-loop-meta
invariant-loop-meta l = (k : ℕ) → l.first < k → k < l.meta → slice_index l.whole k ≡ slice_index l.whole l.first
