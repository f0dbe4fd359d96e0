-- Sums over numbers in a row: what a loop has so far, and what is still to come.
use Rattle.std.proofs.Common.{◌≡◌, ℕ, ◌+◌, ◌-◌, ◌<◌, ◌≤◌, arith, add-zero}
use Rattle.std.specs.Prelude.{sum_by}
use Rattle.std.specs.List.{range_with_len}
use Rattle.std.proofs.Math.Nat.{sub-zero}
use Rattle.std.proofs.lemmas.List.Sums.{sum_by-cons}
use Rattle.free_search.proofs.Scans.{scan_step}

-- so much is counted of n numbers from `first` on once i of them are passed
abbrev pub SumsTo : (ℕ → ℕ) → (first n i total all : ℕ) → Type 0
SumsTo f first n i total all = total + sum_by f (range_with_len (first + i) (n - i)) ≡ all

pub sum_start : (f : ℕ → ℕ) (first n all : ℕ) → sum_by f (range_with_len first n) ≡ all → SumsTo f first n 0 0 all
sum_start f first n all is = rw (add-zero, sub-zero n) (omega (arith, is))

pub sum_on : (f : ℕ → ℕ) (first n i total own all p : ℕ) → i < n → SumsTo f first n i total all → first + i ≡ p → own ≡ f p → SumsTo f first n (i + 1) (total + own) all
sum_on f first n i total own all p low was at_p is =
    let step = rw (scan_step first n i low, at_p) at was in
    let parts = sum_by-cons f p (range_with_len (first + (i + 1)) (n - (i + 1))) in
    omega (arith, step, parts, is)

pub sum_end : (f : ℕ → ℕ) (first n i total all : ℕ) → n ≤ i → SumsTo f first n i total all → total ≡ all
sum_end f first n i total all past was = let left : n - i ≡ 0 = omega arith in let last = rw left at was in omega (arith, last)
