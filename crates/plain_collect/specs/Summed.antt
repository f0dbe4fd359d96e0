-- Sums in a walk over numbers.
use Rattle.std.specs.Prelude.{◌≡◌, ℕ, ◌+◌, ◌-◌, ◌*◌, ◌≤◌, sum_by}
use Rattle.std.specs.List.{range_with_len}

-- of the numbers below p the parts make so much; none is over 32 bits
pub record Sums (part : ℕ → ℕ) (total p end : ℕ) : Type 0 where
  pub few : total ≤ 4294967296 * p
  pub most : p ≤ end
  pub all : total + sum_by part (range_with_len p (end - p)) ≡ sum_by part (range_with_len 0 end)
