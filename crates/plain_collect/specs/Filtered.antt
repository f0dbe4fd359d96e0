-- The numbers that pass a test, in a walk.
use Rattle.std.specs.Prelude.{◌≡◌, ℕ, ◌-◌, ◌<◌, List, ◌++◌, Bool, filter}
use Rattle.std.specs.List.{range_with_len, All}

-- those below p that pass; all are below the end
pub record Filters (test : ℕ → Bool) (passed : List ℕ) (p end : ℕ) : Type 0 where
  pub below : All (λ n. n < end) passed
  pub all : passed ++ filter test (range_with_len p (end - p)) ≡ filter test (range_with_len 0 end)
