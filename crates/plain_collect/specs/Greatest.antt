-- The greatest in a walk over numbers.
use Rattle.std.specs.Prelude.{◌≡◌, ℕ, ◌-◌, ◌≤◌, max, map, Bool, filter}
use Rattle.std.specs.List.{range_with_len, fold}

-- of the numbers below p that pass a test the greatest value is this, and with those to come it is `all`
pub record Greatest (test : ℕ → Bool) (value : ℕ → ℕ) (most p end : ℕ) : Type 0 where
  pub small : most ≤ 0x8000
  pub within : p ≤ end
  pub all : fold max most (map value (filter test (range_with_len p (end - p)))) ≡ fold max 0 (map value (filter test (range_with_len 0 end)))
