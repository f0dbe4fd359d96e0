-- Steps of a sum over numbers.
use Rattle.std.proofs.Common.{◌≡◌, ℕ, ◌+◌, ◌-◌, ◌<◌, ◌≤◌, ◌^◌, arith}
use Rattle.std.specs.Prelude.{sum_by}
use Rattle.std.specs.List.{range_with_len}
use Rattle.std.proofs.Math.Nat.{sub-zero}
use Rattle.std.proofs.lemmas.List.Sums.{sum_by-cons}
use Rattle.plain_image.proofs.Ranges.{range_step, range_end}
use Rattle.plain_collect.specs.Summed.{Sums}

pub sum_none : (part : ℕ → ℕ) (end : ℕ) → Sums part 0 0 end
sum_none part end = record { few = omega arith; most = omega arith; all = rw (sub-zero end) (omega arith) }

pub sum_more : (part : ℕ → ℕ) (total more p end : ℕ) → p < end → Sums part total p end → part p < 2 ^ 32 → more ≡ total + part p → Sums part more (p + 1) end
sum_more part total more p end h was small next = record {
  few = omega (arith, was.few, small, next);
  most = omega arith;
  all = (let step = rw (range_step p end h) at was.all in let first = sum_by-cons part p (range_with_len (p + 1) (end - (p + 1))) in omega (arith, step, first, next));
}

pub sum_all : (part : ℕ → ℕ) (total p end : ℕ) → end ≤ p → Sums part total p end → total ≡ sum_by part (range_with_len 0 end)
sum_all part total p end h was = let step = rw (range_end p end h) at was.all in omega (arith, step)
