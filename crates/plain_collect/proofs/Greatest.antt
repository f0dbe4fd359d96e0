-- Steps of a search for the greatest value.
use Rattle.std.proofs.Common.{◌≡◌, ℕ, ◌+◌, ◌<◌, ◌≤◌, Bool, true, false, arith, refl, max, map}
use Rattle.std.specs.Prelude.{filter}
use Rattle.std.specs.List.{range_with_len, fold}
use Rattle.std.proofs.Math.Nat.{sub-zero}
use Rattle.plain_image.proofs.Ranges.{range_step, range_end}
use Rattle.plain_collect.specs.Greatest.{Greatest}

pub greatest_none : (test : ℕ → Bool) (value : ℕ → ℕ) (end : ℕ) → Greatest test value 0 0 end
greatest_none test value end = record { small = omega arith; within = omega arith; all = rw (sub-zero end) refl }

pub greatest_yes : (test : ℕ → Bool) (value : ℕ → ℕ) (most more p end : ℕ) → p < end → Greatest test value most p end → test p ≡ true → value p ≤ 0x8000 → more ≡ max most (value p) → Greatest test value more (p + 1) end
greatest_yes test value most more p end h was passes low next = record {
  small = omega (arith, was.small, low, next);
  within = omega arith;
  all = (let step = rw (range_step p end h, passes) at was.all in rw next step);
}

pub greatest_no : (test : ℕ → Bool) (value : ℕ → ℕ) (most more p end : ℕ) → p < end → Greatest test value most p end → test p ≡ false → more ≡ most → Greatest test value more (p + 1) end
greatest_no test value most more p end h was fails next = record {
  small = omega (arith, was.small, next);
  within = omega arith;
  all = (let step = rw (range_step p end h, fails) at was.all in rw next step);
}

pub greatest_all : (test : ℕ → Bool) (value : ℕ → ℕ) (most p end : ℕ) → end ≤ p → Greatest test value most p end → most ≡ fold max 0 (map value (filter test (range_with_len 0 end)))
greatest_all test value most p end h was = rw (range_end p end h) at was.all
