-- Scans over numbers in a row: what those from a loop's counter on still bring.
use Rattle.std.proofs.Common.{◌≡◌, ℕ, zero, suc, ◌+◌, ◌-◌, ◌<◌, ◌≤◌, List, [], ◌∷◌, Bool, true, false, length, refl, sym, ◌∙◌, ap, subst, arith, add-zero}
use Rattle.std.specs.Prelude.{filter, find, Option, Some, None}
use Rattle.std.specs.List.{range_with_len}
use Rattle.std.proofs.Math.Nat.{sub-zero}

pub scan_step : (first n i : ℕ) → i < n → range_with_len (first + i) (n - i) ≡ (first + i) ∷ range_with_len (first + (i + 1)) (n - (i + 1))
scan_step first n i h = let left : n - i ≡ suc (n - (i + 1)) = omega arith in let next : first + i + 1 ≡ first + (i + 1) = omega arith in rw (left, next) refl

scan_end : (first n i : ℕ) → n ≤ i → range_with_len (first + i) (n - i) ≡ []
scan_end first n i h = let left : n - i ≡ 0 = omega arith in rw left refl

scan_start : (first n : ℕ) → range_with_len (first + 0) (n - 0) ≡ range_with_len first n
scan_start first n = rw (add-zero, sub-zero n) refl

-- those that passed so far, and those to come, are all of them
pub count_start : (test : ℕ → Bool) (first n : ℕ) → 0 + length (filter test (range_with_len (first + 0) (n - 0))) ≡ length (filter test (range_with_len first n))
count_start test first n = let all = ap (λ (xs : List ℕ). length (filter test xs)) (scan_start first n) in omega (arith, all)

pub count_yes : (test : ℕ → Bool) (first n i count total p : ℕ) → i < n → count + length (filter test (range_with_len (first + i) (n - i))) ≡ total → first + i ≡ p → test p ≡ true →
    count + 1 + length (filter test (range_with_len (first + (i + 1)) (n - (i + 1)))) ≡ total
count_yes test first n i count total p h all at_p passes = let step = rw (scan_step first n i h, at_p, passes) at all in omega (arith, step)

pub count_no : (test : ℕ → Bool) (first n i count total p : ℕ) → i < n → count + length (filter test (range_with_len (first + i) (n - i))) ≡ total → first + i ≡ p → test p ≡ false →
    count + length (filter test (range_with_len (first + (i + 1)) (n - (i + 1)))) ≡ total
count_no test first n i count total p h all at_p fails = rw (scan_step first n i h, at_p, fails) at all

-- the same of several in a row, up to number j
pub skip_no : (test : ℕ → Bool) (first n d i j count total : ℕ) → i + d ≡ j → j ≤ n → count + length (filter test (range_with_len (first + i) (n - i))) ≡ total → ((k : ℕ) → i ≤ k → k < j → test (first + k) ≡ false) →
    count + length (filter test (range_with_len (first + j) (n - j))) ≡ total
skip_no test first n zero i j count total to most all fails = let same : i ≡ j = omega (arith, to) in subst (λ (k : ℕ). count + length (filter test (range_with_len (first + k) (n - k))) ≡ total) same all
skip_no test first n (suc d) i j count total to most all fails =
    skip_no test first n d (i + 1) j count total (omega (arith, to)) most (count_no test first n i count total (first + i) (omega (arith, to, most)) all refl (fails i (omega arith) (omega (arith, to)))) (λ k low high. fails k (omega (arith, low)) high)

pub skip_yes : (test : ℕ → Bool) (first n d i j count total : ℕ) → i + d ≡ j → j ≤ n → count + length (filter test (range_with_len (first + i) (n - i))) ≡ total → ((k : ℕ) → i ≤ k → k < j → test (first + k) ≡ true) →
    count + d + length (filter test (range_with_len (first + j) (n - j))) ≡ total
skip_yes test first n zero i j count total to most all passes =
    let same : i ≡ j = omega (arith, to) in
    let here = subst (λ (k : ℕ). count + length (filter test (range_with_len (first + k) (n - k))) ≡ total) same all in
    omega (arith, here)
skip_yes test first n (suc d) i j count total to most all passes =
    let rest = skip_yes test first n d (i + 1) j (count + 1) total (omega (arith, to)) most (count_yes test first n i count total (first + i) (omega (arith, to, most)) all refl (passes i (omega arith) (omega (arith, to)))) (λ k low high. passes k (omega (arith, low)) high) in
    omega (arith, rest)

pub count_end : (test : ℕ → Bool) (first n i count total : ℕ) → n ≤ i → count + length (filter test (range_with_len (first + i) (n - i))) ≡ total → count ≡ total
count_end test first n i count total h all = let last = rw (scan_end first n i h) at all in omega (arith, last)

-- the first that passes is the first of those from the counter on, as long as none before it passes
pub first_start : (test : ℕ → Bool) (first n : ℕ) → find test (range_with_len (first + 0) (n - 0)) ≡ find test (range_with_len first n)
first_start test first n = ap (find test) (scan_start first n)

pub first_here : (test : ℕ → Bool) (first n i p : ℕ) (total : Option ℕ) → i < n → find test (range_with_len (first + i) (n - i)) ≡ total → first + i ≡ p → test p ≡ true → Some p ≡ total
first_here test first n i p total h all at_p passes = sym (ap (find test) (scan_step first n i h) ∙ rw (at_p, passes) refl) ∙ all

pub first_later : (test : ℕ → Bool) (first n i p : ℕ) (total : Option ℕ) → i < n → find test (range_with_len (first + i) (n - i)) ≡ total → first + i ≡ p → test p ≡ false →
    find test (range_with_len (first + (i + 1)) (n - (i + 1))) ≡ total
first_later test first n i p total h all at_p fails = sym (ap (find test) (scan_step first n i h) ∙ rw (at_p, fails) refl) ∙ all

pub first_end : (test : ℕ → Bool) (first n i : ℕ) (total : Option ℕ) → n ≤ i → find test (range_with_len (first + i) (n - i)) ≡ total → None ≡ total
first_end test first n i total h all = sym (ap (find test) (scan_end first n i h)) ∙ all
