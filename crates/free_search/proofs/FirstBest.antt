-- The first of the numbers that pass a test that no other of them is better than.
use Rattle.std.proofs.Common.{◌≡◌, ℕ, zero, suc, ◌+◌, ◌<◌, ◌≤◌, ⊎_elim, [], Bool, true, false, refl, ◌∙◌, ap, arith}
use Rattle.std.specs.Prelude.{Some, filter, find}
use Rattle.std.specs.List.{range_with_len, list_all}
use Rattle.std.proofs.lemmas.Bool.{cases_Bool, cases_eq}

module _ (test : ℕ → Bool) where
  pub none_pass : (a n : ℕ) → ((b : ℕ) → a ≤ b → b < a + n → test b ≡ false) → filter test (range_with_len a n) ≡ []
  none_pass a zero none = refl
  none_pass a (suc n) none = rw (none a (omega arith) (omega arith)) (none_pass (a + 1) n (λ b low high. none b (omega arith) (omega arith)))

  find_at : (p : ℕ → Bool) (k a n : ℕ) → a ≤ k → k < a + n → test k ≡ true → p k ≡ true → ((b : ℕ) → b < k → test b ≡ true → p b ≡ false) → find p (filter test (range_with_len a n)) ≡ Some k
  find_at p k a zero low high passes best before = absurd (omega arith)
  find_at p k a (suc n) low high passes best before =
      ⊎_elim
      (λ (here : a ≡ k). let t : test a ≡ true = ap test here ∙ passes in let q : p a ≡ true = ap p here ∙ best in rw (t, q) (ap (λ (m : ℕ). Some m) here))
      (λ (there : a ≡ k → ⊥).
      let rest = find_at p k (a + 1) n (omega (arith, there)) (omega arith) passes best before in
      ⊎_elim
      (λ (yes : test a ≡ true). let q : p a ≡ false = before a (omega (arith, there)) yes in rw (yes, q) rest)
      (λ (no : test a ≡ false). rw no rest)
      (cases_Bool (test a)))
      (cases_eq a k)

  all_hold : (q : ℕ → Bool) (a n : ℕ) → ((b : ℕ) → b < a + n → test b ≡ true → q b ≡ true) → list_all q (filter test (range_with_len a n)) ≡ true
  all_hold q a zero all = refl
  all_hold q a (suc n) all =
      let rest = all_hold q (a + 1) n (λ b high ok. all b (omega arith) ok) in
      ⊎_elim
      (λ (yes : test a ≡ true). let h : q a ≡ true = all a (omega arith) yes in rw (yes, h) rest)
      (λ (no : test a ≡ false). rw no rest)
      (cases_Bool (test a))

  one_breaks : (q : ℕ → Bool) (k a n : ℕ) → a ≤ k → k < a + n → test k ≡ true → q k ≡ false → list_all q (filter test (range_with_len a n)) ≡ false
  one_breaks q k a zero low high passes breaks = absurd (omega arith)
  one_breaks q k a (suc n) low high passes breaks =
      ⊎_elim
      (λ (here : a ≡ k). let t : test a ≡ true = ap test here ∙ passes in let no : q a ≡ false = ap q here ∙ breaks in rw (t, no) refl)
      (λ (there : a ≡ k → ⊥).
      let rest = one_breaks q k (a + 1) n (omega (arith, there)) (omega arith) passes breaks in
      ⊎_elim
      (λ (yes : test a ≡ true). ⊎_elim (λ (holds : q a ≡ true). rw (yes, holds) rest) (λ (no : q a ≡ false). rw (yes, no) refl) (cases_Bool (q a)))
      (λ (no : test a ≡ false). rw no rest)
      (cases_Bool (test a)))
      (cases_eq a k)

  -- the one that no other of them is better than, and each before it isn't so
  pub find_best : (is_as_good : ℕ → ℕ → Bool) (n k : ℕ) → k < n → test k ≡ true → ((b : ℕ) → b < n → test b ≡ true → is_as_good k b ≡ true) → ((b : ℕ) → b < k → test b ≡ true → is_as_good b k ≡ false) →
      find (λ b. list_all (λ other. is_as_good b other) (filter test (range_with_len 0 n))) (filter test (range_with_len 0 n)) ≡ Some k
  find_best is_as_good n k below passes best first =
      find_at (λ b. list_all (λ other. is_as_good b other) (filter test (range_with_len 0 n))) k 0 n (omega arith) (omega (arith, below)) passes
      (all_hold (is_as_good k) 0 n (λ b high ok. best b (omega arith) ok))
      (λ b low ok. one_breaks (is_as_good b) k 0 n (omega arith) (omega (arith, below)) passes (first b low ok))
