-- What a page more or less does to a table.
use Rattle.std.proofs.Common.{◌≡◌, ◌≢◌, ℕ, zero, suc, ◌+◌, ◌%◌, ◌<◌, ◌≤◌, List, [], ◌∷◌, Bool, true, false, Some, None, ap, refl, arith, ⊎_elim}
use Rattle.std.proofs.Math.Path.{fun_ext}
use Rattle.std.specs.Prelude.{find}
use Rattle.std.specs.List.{range_with_len}
use Rattle.std.proofs.lemmas.Bool.{cases_eq, cases_Bool, eq-eqb, ne_eqb}
use Rattle.std.proofs.lemmas.Option.{none-some, same_Some}
use Rattle.image_model.specs.Headers.{obj_id}
use Rattle.image_model.specs.Live.{Live, own}
use Rattle.image_laws.specs.Changes.{Gains}

-- ---- the first number that passes

pub find_none : (test : ℕ → Bool) (xs : List ℕ) → ((q : ℕ) → test q ≡ false) → find test xs ≡ None
find_none test [] h = refl
find_none test (x ∷ xs) h = grind (arith, h x, find_none test xs h)

pub find_only : (test : ℕ → Bool) (p a n : ℕ) → a ≤ p → p < a + n → test p ≡ true → ((q : ℕ) → q ≢ p → test q ≡ false) → find test (range_with_len a n) ≡ Some p
find_only test p a zero low high here there = absurd (omega arith)
find_only test p a (suc n) low high here there =
    ⊎_elim
    (λ (x : a ≡ p). let t : test a ≡ true = rw x here in rw t (ap (λ (y : ℕ). Some y) x))
    (λ (x : a ≡ p → ⊥). rw (there a x) (find_only test p (a + 1) n (omega (arith, x)) (omega arith) here there))
    (cases_eq a p)

-- a number that was not the first one fails now
pub find_without : (test now : ℕ → Bool) (p : ℕ) (xs : List ℕ) → ((q : ℕ) → q ≢ p → now q ≡ test q) → now p ≡ false → (find test xs ≡ Some p → ⊥) → find now xs ≡ find test xs
find_without test now p [] same gone other = refl
find_without test now p (x ∷ xs) same gone other =
    ⊎_elim
    (λ (here : x ≡ p).
    ⊎_elim
    (λ (yes : test x ≡ true). absurd (other (rw yes (ap (λ (y : ℕ). Some y) here))))
    (λ (no : test x ≡ false). let fails : now x ≡ false = rw here gone in rw (fails, no) (find_without test now p xs same gone (λ e. other (rw no e))))
    (cases_Bool (test x)))
    (λ (there : x ≡ p → ⊥).
    rw (same x there)
    (⊎_elim
    (λ (yes : test x ≡ true). rw yes refl)
    (λ (no : test x ≡ false). rw no (find_without test now p xs same gone (λ e. other (rw no e))))
    (cases_Bool (test x))))
    (cases_eq x p)

-- ---- one more page

module _ (p : ℕ) (page : List ℕ) (old new : Live) (change : Gains p page old new) where
  pub own-gains_other : (j : ℕ) → (obj_id page % 0x8000 ≡ j → ⊥) → own new j ≡ own old j
  unfolding own
  own-gains_other j differ =
      fun_ext (λ (q : ℕ). ⊎_elim
      (λ (here : q ≡ p). rw here (rw (change.before, change.after) (rw (ne_eqb _ j differ) refl)))
      (λ (there : q ≡ p → ⊥). rw (change.others q there) refl)
      (cases_eq q p))

  pub own-gains_page : own new (obj_id page % 0x8000) p ≡ Some page
  unfolding own
  own-gains_page = rw change.after (rw (eq-eqb _ _ refl) refl)

  pub own-gains_rest : (q : ℕ) → q ≢ p → own new (obj_id page % 0x8000) q ≡ own old (obj_id page % 0x8000) q
  unfolding own
  own-gains_rest q there = rw (change.others q there) refl

-- the first that passes does pass, and lies in the range
pub find_passes : (test : ℕ → Bool) (a n q : ℕ) → find test (range_with_len a n) ≡ Some q → (test q ≡ true) × (a ≤ q) × (q < a + n)
find_passes test a zero q h = absurd (none-some q h)
find_passes test a (suc n) q h =
    ⊎_elim
    (λ (yes : test a ≡ true). let e : a ≡ q = same_Some a q (rw yes at h) in (rw e at yes, omega arith, omega arith))
    (λ (no : test a ≡ false). let w = find_passes test (a + 1) n q (rw no at h) in (w.0, omega (arith, w.1), omega (arith, w.2)))
    (cases_Bool (test a))

-- one number more passes
pub find_gains : (test now : ℕ → Bool) (p a n : ℕ) → ((q : ℕ) → q ≢ p → now q ≡ test q) → now p ≡ true → a ≤ p → p < a + n →
    ((q : ℕ) → find test (range_with_len a n) ≡ Some q → q < p → find now (range_with_len a n) ≡ Some q) ×
    (((q : ℕ) → find test (range_with_len a n) ≡ Some q → p < q) → find now (range_with_len a n) ≡ Some p)
find_gains test now p a zero same here low high = absurd (omega arith)
find_gains test now p a (suc n) same here low high =
    ⊎_elim
    (λ (e : a ≡ p).
    let t : now a ≡ true = rw e here in (
      λ q f less. let w = find_passes test a (suc n) q f in absurd (omega (arith, w.1)),
      λ k. rw t (ap (λ (x : ℕ). Some x) e),
    ))
    (λ (e : a ≡ p → ⊥).
    let w = find_gains test now p (a + 1) n same here (omega (arith, e)) (omega arith) in
    let keep : now a ≡ test a = same a e in
    ⊎_elim
    (λ (yes : test a ≡ true).
    (λ q f less. rw (keep, yes) (rw yes at f), λ k. let less : p < a = k a (rw yes refl) in absurd (omega (arith, e))))
    (λ (no : test a ≡ false).
    (λ q f less. rw (keep, no) (w.0 q (rw no at f) less), λ k. rw (keep, no) (w.1 (λ q f. k q (rw no f)))))
    (cases_Bool (test a)))
    (cases_eq a p)
