-- Sums over a range of numbers.
use Rattle.std.proofs.Common.{◌≡◌, ℕ, zero, suc, ◌+◌, ◌<◌, ◌≤◌, refl, arith}
use Rattle.std.specs.Prelude.{sum_by}
use Rattle.std.specs.List.{range_with_len}
use Rattle.std.proofs.lemmas.List.Sums.{sum_by-cons}

-- sums of the same numbers
pub sum_alike : (f h : ℕ → ℕ) (a n : ℕ) → ((k : ℕ) → a ≤ k → k < a + n → f k ≡ h k) → sum_by f (range_with_len a n) ≡ sum_by h (range_with_len a n)
sum_alike f h a zero same = refl
sum_alike f h a (suc n) same =
    let first = sum_by-cons f a (range_with_len (a + 1) n) in
    let other = sum_by-cons h a (range_with_len (a + 1) n) in
    let rest = sum_alike f h (a + 1) n (λ k low high. same k (omega (arith, low)) (omega (arith, high))) in
    omega (arith, first, other, rest, same a (omega arith) (omega arith))
