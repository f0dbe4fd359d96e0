-- Counts in a walk over numbers, from a first one on.
use Rattle.std.specs.Prelude.{◌≡◌, ℕ, ◌+◌, ◌-◌, ◌≤◌, length, Bool, filter}
use Rattle.std.specs.List.{range_with_len}

-- of the numbers from `first` to below p so many passed a test; with those to come there are `total`
pub record Tallies (test : ℕ → Bool) (first count p end total : ℕ) : Type 0 where
  pub few : first + count ≤ p
  pub most : p ≤ end
  pub all : count + length (filter test (range_with_len p (end - p))) ≡ total
