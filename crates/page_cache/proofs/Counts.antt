-- How many numbers below a bound pass a test.
use Rattle.std.proofs.Common.{◌≡◌, ℕ, zero, suc, ◌+◌, ◌<◌, ◌≤◌, ◌⊎◌, inl, inr, ⊎_elim, Bool, true, false, ◌||◌, if◌then◌else◌, refl, subst, arith}
use Rattle.page_cache.specs.Counting.{some_below, many_below}
use Rattle.page_cache.proofs.Places.{same_or_not}

or_left : (a b : Bool) → a ≡ true → (a || b) ≡ true
or_left true b e = refl
or_left false b e = absurd (cc)

or_right : (a b : Bool) → b ≡ true → (a || b) ≡ true
or_right true b e = refl
or_right false b e = e

or_either : (a b : Bool) → (a || b) ≡ true → (a ≡ true) ⊎ (b ≡ true)
or_either true b e = inl refl
or_either false b e = inr e

-- where one passes, some does
pub some_here : (test : ℕ → Bool) (n k : ℕ) → k < n → test k ≡ true → some_below test n ≡ true
unfolding some_below
some_here test zero k below passes = absurd (omega (arith, below))
some_here test (suc n) k below passes = ⊎_elim
    (λ e. or_left (test n) (some_below test n) (subst (λ (j : ℕ). test j ≡ true) e passes))
    (λ ne. or_right (test n) (some_below test n) (some_here test n k (omega (arith, below, ne)) passes))
    (same_or_not k n)

-- one that passes
pub record Passing (test : ℕ → Bool) (n : ℕ) : Type 0 where
  pub number : ℕ
  pub below : number < n
  pub passes : test number ≡ true

pub some_of : (test : ℕ → Bool) (n : ℕ) → some_below test n ≡ true → Passing test n
unfolding some_below
some_of test zero e = absurd (cc)
some_of test (suc n) e = ⊎_elim
    (λ here. record { number = n; below = omega arith; passes = here })
    (λ rest. let w = some_of test n rest in record { number = w.number; below = omega (arith, w.below); passes = w.passes })
    (or_either (test n) (some_below test n) e)

if_most : (b : Bool) → (let v : ℕ = if b then 1 else 0 in v) ≤ 1
if_most true = omega arith
if_most false = omega arith

-- at most all pass
pub many_most : (test : ℕ → Bool) (n : ℕ) → many_below test n ≤ n
unfolding many_below
many_most test zero = omega arith
many_most test (suc n) = omega (arith, many_most test n, if_most (test n))

if_more : (a b : Bool) → (a ≡ true → b ≡ true) → (let v : ℕ = if a then 1 else 0 in v) ≤ (let w : ℕ = if b then 1 else 0 in w)
if_more true true more = omega arith
if_more true false more = absurd (let e = more refl in cc)
if_more false b more = omega arith

-- with all that pass one test passing another, at least as many pass that
pub many_more : (a b : ℕ → Bool) (n : ℕ) → ((k : ℕ) → k < n → a k ≡ true → b k ≡ true) → many_below a n ≤ many_below b n
unfolding many_below
many_more a b zero more = omega arith
many_more a b (suc n) more = omega (arith, many_more a b n (λ k below. more k (omega (arith, below))), if_more (a n) (b n) (more n (omega arith)))

if_one : (a b : Bool) → a ≡ false → b ≡ true → (let v : ℕ = if a then 1 else 0 in v) + 1 ≤ (let w : ℕ = if b then 1 else 0 in w)
if_one true b off on = absurd (cc)
if_one false true off on = omega arith
if_one false false off on = absurd (cc)

-- and one more, where some number passes only the other
pub many_one_more : (a b : ℕ → Bool) (n p : ℕ) → ((k : ℕ) → k < n → a k ≡ true → b k ≡ true) → p < n → a p ≡ false → b p ≡ true → many_below a n + 1 ≤ many_below b n
unfolding many_below
many_one_more a b zero p more below off on = absurd (omega (arith, below))
many_one_more a b (suc n) p more below off on = ⊎_elim
    (λ e. omega (arith, many_more a b n (λ k less. more k (omega (arith, less))), if_one (a n) (b n) (subst (λ (j : ℕ). a j ≡ false) e off) (subst (λ (j : ℕ). b j ≡ true) e on)))
    (λ ne. omega (arith, many_one_more a b n p (λ k less. more k (omega (arith, less))) (omega (arith, below, ne)) off on, if_more (a n) (b n) (more n (omega arith))))
    (same_or_not p n)

if_none : (a : Bool) → (a ≡ true → ⊥) → (let v : ℕ = if a then 1 else 0 in v) ≡ 0
if_none true none = absurd (none refl)
if_none false none = refl

pub many_none : (a : ℕ → Bool) (n : ℕ) → ((k : ℕ) → k < n → a k ≡ true → ⊥) → many_below a n ≡ 0
unfolding many_below
many_none a zero none = refl
many_none a (suc n) none = omega (arith, many_none a n (λ k below. none k (omega (arith, below))), if_none (a n) (none n (omega arith)))
