-- How many numbers below a bound pass a test.
use Rattle.std.specs.Prelude.{ℕ, zero, suc, ◌+◌, Bool, false, ◌||◌, if◌then◌else◌}

-- some number below n passes
unfoldable pub some_below : (ℕ → Bool) → ℕ → Bool
some_below test zero = false
some_below test (suc n) = test n || some_below test n

-- how many numbers below n pass
unfoldable pub many_below : (ℕ → Bool) → ℕ → ℕ
many_below test zero = 0
many_below test (suc n) = many_below test n + (if test n then 1 else 0)
