-- Counts in a walk over numbers.
use Rattle.std.specs.Prelude.{◌≡◌, ℕ, ◌+◌, ◌-◌, ◌≤◌, length, Bool, filter}
use Rattle.std.specs.List.{range_with_len}

-- of the numbers below p so many passed a test
pub record Counts (test : ℕ → Bool) (count p end : ℕ) : Type 0 where
  pub few : count ≤ p
  pub most : p ≤ end
  pub all : count + length (filter test (range_with_len p (end - p))) ≡ length (filter test (range_with_len 0 end))
