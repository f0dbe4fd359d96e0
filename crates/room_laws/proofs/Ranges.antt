-- Sums and counts over numbers in a row.
use Rattle.std.proofs.Common.{◌≡◌, ℕ, zero, suc, ◌+◌, ◌-◌, ◌<◌, ◌≤◌, List, [], ◌∷◌, length, Bool, true, false, cond, ◌==◌, ◌&&◌, nat_lt, ap, refl, sym, ◌∙◌, arith, ⊎_elim}
use Rattle.std.specs.Prelude.{filter, sum_by}
use Rattle.std.specs.List.{range_with_len, list_any, list_all}
use Rattle.std.proofs.lemmas.List.Sums.{sum_by-cons, length-filter}
use Rattle.std.proofs.lemmas.Bool.{cases_Bool, cases_eq, eq-eqb, ne_eqb, lt-ltb}
use Rattle.image_laws.proofs.FreeBlocks.{filter-same}
use Rattle.image_laws.proofs.Matching.{filter-none_in, count_one, count_by_key, sum-range}

-- two numbers for each that are the same but at one place, where the first is 0
pub sum_but : (f h : ℕ → ℕ) (k a n : ℕ) → a ≤ k → k < a + n → f k ≡ 0 → ((q : ℕ) → a ≤ q → q < a + n → (q ≡ k → ⊥) → f q ≡ h q) → sum_by f (range_with_len a n) + h k ≡ sum_by h (range_with_len a n)
sum_but f h k a zero low high none same = absurd (omega arith)
sum_but f h k a (suc n) low high none same =
    let left = sum_by-cons f a (range_with_len (a + 1) n) in
    let right = sum_by-cons h a (range_with_len (a + 1) n) in
    ⊎_elim
    (λ (here : a ≡ k).
    let rest = sum-range f h (a + 1) n (λ q more below. same q (omega arith) (omega arith) (λ e. omega (arith, e, here, more))) in
    let f_none : f a ≡ 0 = ap f here ∙ none in
    let h_same : h a ≡ h k = ap h here in
    omega (arith, rest, left, right, f_none, h_same))
    (λ (there : a ≡ k → ⊥).
    let rest = sum_but f h k (a + 1) n (omega (arith, there)) (omega arith) none (λ q more below other. same q (omega arith) (omega arith) other) in
    let first = same a (omega arith) (omega arith) there in
    omega (arith, rest, left, right, first))
    (cases_eq a k)

count_append : (t : ℕ → Bool) (a n m : ℕ) → length (filter t (range_with_len a (n + m))) ≡ length (filter t (range_with_len a n)) + length (filter t (range_with_len (a + n) m))
count_append t a zero m = let at : a + 0 ≡ a = omega arith in let all : 0 + m ≡ m = omega arith in rw (at, all) (omega arith)
count_append t a (suc n) m =
    let at : a + suc n ≡ a + 1 + n = omega arith in
    let all : suc n + m ≡ suc (n + m) = omega arith in
    let rest = count_append t (a + 1) n m in
    rw (at, all)
    (⊎_elim
    (λ (yes : t a ≡ true). rw yes (omega (arith, rest)))
    (λ (none : t a ≡ false). rw none (omega (arith, rest)))
    (cases_Bool (t a)))

-- those that pass lie in a window, where the two tests agree
pub count_within : (t s : ℕ → Bool) (lo w N : ℕ) → lo + w ≤ N → ((q : ℕ) → (q < lo) → s q ≡ false) → ((q : ℕ) → lo + w ≤ q → q < N → s q ≡ false) → ((q : ℕ) → lo ≤ q → q < lo + w → s q ≡ t q) →
    length (filter s (range_with_len 0 N)) ≡ length (filter t (range_with_len lo w))
count_within t s lo w N fits before after same =
    let parts : lo + (w + (N - (lo + w))) ≡ N = omega arith in
    let first = count_append s 0 lo (w + (N - (lo + w))) in
    let from : 0 + lo ≡ lo = omega arith in
    let second = count_append s lo w (N - (lo + w)) in
    let a : length (filter s (range_with_len 0 lo)) ≡ 0 = filter-none_in s 0 lo (λ q low high. before q (omega arith)) in
    let c : length (filter s (range_with_len (lo + w) (N - (lo + w)))) ≡ 0 = filter-none_in s (lo + w) (N - (lo + w)) (λ q low high. after q low (omega arith)) in
    let b = filter-same t s lo w same in
    let whole = rw (parts, from) at first in
    omega (arith, whole, second, a, b, c)

-- a count, by what each number that passes belongs to
pub count_by_block : (t : ℕ → Bool) (key : ℕ → ℕ) (N n : ℕ) → ((p : ℕ) → p < N → t p ≡ true → key p < n) →
    length (filter t (range_with_len 0 N)) ≡ sum_by (λ (c : ℕ). length (filter (λ p. t p && (key p == c)) (range_with_len 0 N))) (range_with_len 0 n)
count_by_block t key N n within =
    count_by_key t (λ (c p : ℕ). t p && (key p == c)) N 0 n (λ p low. ⊎_elim
    (λ (yes : t p ≡ true). rw yes (count_one (λ (c : ℕ). key p == c) (key p) 0 n (omega arith) (omega (arith, within p low yes)) (eq-eqb (key p) (key p) refl) (λ j there. ne_eqb (key p) j (λ e. there (sym e)))))
    (λ (none : t p ≡ false). rw none (filter-none_in (λ (c : ℕ). false) 0 n (λ q l h. refl)))
    (cases_Bool (t p)))

pub any_counted : (t : ℕ → Bool) (xs : List ℕ) → nat_lt 0 (length (filter t xs)) ≡ list_any t xs
any_counted t [] = refl
any_counted t (x ∷ xs) = ⊎_elim
    (λ (yes : t x ≡ true). rw yes (lt-ltb 0 (suc (length (filter t xs))) (omega arith)))
    (λ (none : t x ≡ false). rw none (any_counted t xs))
    (cases_Bool (t x))

filter_short : (t : ℕ → Bool) (xs : List ℕ) → length (filter t xs) ≤ length xs
filter_short t [] = omega arith
filter_short t (x ∷ xs) = let rest = filter_short t xs in ⊎_elim
    (λ (yes : t x ≡ true). rw yes (omega (arith, rest)))
    (λ (none : t x ≡ false). rw none (omega (arith, rest)))
    (cases_Bool (t x))

pub all_counted : (t : ℕ → Bool) (xs : List ℕ) → list_all t xs ≡ true → length (filter t xs) ≡ length xs
all_counted t [] all = refl
all_counted t (x ∷ xs) all = ⊎_elim
    (λ (yes : t x ≡ true). let rest = rw yes at all in rw yes (ap (λ (k : ℕ). suc k) (all_counted t xs rest)))
    (λ (none : t x ≡ false). let bad : false ≡ true = rw none at all in absurd (cc))
    (cases_Bool (t x))

pub not_all_counted : (t : ℕ → Bool) (xs : List ℕ) → list_all t xs ≡ false → length (filter t xs) < length xs
not_all_counted t [] none = absurd (let bad : true ≡ false = none in cc)
not_all_counted t (x ∷ xs) none = ⊎_elim
    (λ (yes : t x ≡ true). let rest = not_all_counted t xs (rw yes at none) in rw yes (omega (arith, rest)))
    (λ (fails : t x ≡ false). let rest = filter_short t xs in rw fails (omega (arith, rest)))
    (cases_Bool (t x))

-- each number passes one of four tests
pub four_kinds : (s t u v : ℕ → Bool) (a n : ℕ) → ((q : ℕ) → a ≤ q → q < a + n → cond (s q) 1 0 + cond (t q) 1 0 + cond (u q) 1 0 + cond (v q) 1 0 ≡ 1) →
    length (filter s (range_with_len a n)) + length (filter t (range_with_len a n)) + length (filter u (range_with_len a n)) + length (filter v (range_with_len a n)) ≡ n
four_kinds s t u v a zero one = refl
four_kinds s t u v a (suc n) one =
    let here = one a (omega arith) (omega arith) in
    let rest = four_kinds s t u v (a + 1) n (λ q low high. one q (omega arith) (omega arith)) in
    let w = cons_counted s a (range_with_len (a + 1) n) in
    let x = cons_counted t a (range_with_len (a + 1) n) in
    let y = cons_counted u a (range_with_len (a + 1) n) in
    let z = cons_counted v a (range_with_len (a + 1) n) in
    omega (arith, here, rest, w, x, y, z)
  where
    cons_counted : (t : ℕ → Bool) (x : ℕ) (xs : List ℕ) → length (filter t (x ∷ xs)) ≡ cond (t x) 1 0 + length (filter t xs)
    cons_counted t x xs = ⊎_elim (λ (y : t x ≡ true). rw y (omega arith)) (λ (n : t x ≡ false). rw n (omega arith)) (cases_Bool (t x))

-- two counts that are the same but at one number, which doesn't pass the first test
pub count_but : (s t : ℕ → Bool) (k a n : ℕ) → a ≤ k → k < a + n → s k ≡ false → ((q : ℕ) → a ≤ q → q < a + n → (q ≡ k → ⊥) → s q ≡ t q) →
    length (filter s (range_with_len a n)) + cond (t k) 1 0 ≡ length (filter t (range_with_len a n))
count_but s t k a n low high none same =
    let but = sum_but (λ q. cond (s q) 1 0) (λ q. cond (t q) 1 0) k a n low high (rw none refl) (λ q from to there. rw (same q from to there) refl) in
    let left = length-filter s (range_with_len a n) in
    let right = length-filter t (range_with_len a n) in
    omega (arith, but, left, right)

pub list_all_same : (s t : ℕ → Bool) (a n : ℕ) → ((q : ℕ) → a ≤ q → q < a + n → t q ≡ s q) → list_all t (range_with_len a n) ≡ list_all s (range_with_len a n)
list_all_same s t a zero same = refl
list_all_same s t a (suc n) same = rw (same a (omega arith) (omega arith), list_all_same s t (a + 1) n (λ q low high. same q (omega arith) (omega arith))) refl
