-- The numbers of meta bytes by which most files are whole, of how many are whole by each.
use Rattle.std.specs.Prelude.{ℕ, ◌≡◌, ◌+◌, ◌-◌, ◌<◌, ◌≤◌, List, slice_index}
use Rattle.volume_rank.specs.declared.found.MetaRange.{MetaRange}

-- Of the numbers below `end` this is the least by which most are whole.
pub record IsBestOf (whole : List ℕ) (end best : ℕ) : Type 0 where
  pub few : best < end
  pub most : (k : ℕ) → k < end → slice_index whole k ≤ slice_index whole best
  pub least : (k : ℕ) → k < best → slice_index whole k < slice_index whole best

-- By each number behind `first` and up to `last` as many are whole, and not by the next one.
pub record IsLastOf (whole : List ℕ) (first last : ℕ) : Type 0 where
  pub some : first ≤ last
  pub few : last ≤ 64
  pub equal : (k : ℕ) → first < k → k ≤ last → slice_index whole k ≡ slice_index whole first
  pub end : last < 64 → slice_index whole (last + 1) ≡ slice_index whole first → ⊥

-- The range, and what these read. All other ids that have a header page are damaged.
pub record IsTop (whole : List ℕ) (heads : ℕ) (range : MetaRange) : Type 0 where
  pub best : IsBestOf whole 65 range.first
  pub last : IsLastOf whole range.first range.last
  pub counted : range.counts.whole ≡ slice_index whole range.first
  pub damaged : range.counts.damaged ≡ heads - range.counts.whole
