-- The first number of the greatest value, one number after the other.
use Rattle.std.proofs.Common.{◌≡◌, ℕ, zero, suc, ◌+◌, ◌-◌, ◌<◌, ◌≤◌, ⊎_elim, List, [], ◌∷◌, Bool, true, false, ◌&&◌, ◌||◌, refl, ◌∙◌, ap, arith, if◌then◌else◌}
use Rattle.std.specs.Prelude.{Option, Some, None, is_some, ℤ, int_le, filter, find}
use Rattle.std.specs.Option.{option_map}
use Rattle.std.specs.List.{range_with_len, list_all, list_any}
use Rattle.std.proofs.lemmas.Int.{ints}
use Rattle.std.proofs.lemmas.Bool.{cases_Bool, cases_eq, cases_lt}
use Rattle.block_gc.specs.declared.choice.Scored.{Scored}
use Rattle.free_search.proofs.FirstBest.{none_pass, find_best}
use Rattle.block_gc.specs.Best.{better_of, IsFirst, IsBelow}

le_self : (a : ℤ) → int_le a a ≡ true
le_self a = grind (arith, ints)

le_over : (a b c : ℤ) → int_le a b ≡ true → int_le b c ≡ true → int_le a c ≡ true
le_over a b c x y = grind (arith, ints)

le_other : (a b : ℤ) → int_le a b ≡ false → int_le b a ≡ true
le_other a b x = grind (arith, ints)

-- what is above the greatest so far is above each one
le_under : (a b c : ℤ) → int_le a c ≡ true → int_le b c ≡ false → int_le b a ≡ false
le_under a b c x y = grind (arith, ints)

last_or : (P : ℕ → Type 0) (n b : ℕ) → b < n + 1 → (b < n → P b) → P n → P b
last_or P n b below low last = ⊎_elim (λ (less : b < n). low less) (λ (more : n ≤ b). let same : b ≡ n = omega arith in rw same last) (cases_lt b n)

-- ---- one number more

module _ (test : ℕ → Bool) (value : ℕ → ℤ) where
  pub first_start : IsFirst test value 0 None
  first_start = λ b below. absurd (omega (arith, below))

  first_yes : (n : ℕ) (best : Option Scored) → test n ≡ true → IsFirst test value n best → IsFirst test value (n + 1) (better_of best (record { block = n; score = value n }))
  first_yes n None passes was = record {
    below = omega arith;
    passes = passes;
    score = refl;
    most = λ b below ok. last_or (λ (k : ℕ). int_le (value k) (value n) ≡ true) n b below (λ less. absurd (let no : test b ≡ false = was b less in cc)) (le_self (value n));
    first = λ b below ok. absurd (let no : test b ≡ false = was b below in cc);
  }
  first_yes n (Some s) passes was = turn (int_le (value n) s.score) refl
    where
      turn : (other : Bool) → int_le (value n) s.score ≡ other → IsFirst test value (n + 1) (if other then Some s else Some (record { block = n; score = value n }))
      turn true e = record {
        below = omega (arith, was.below);
        passes = was.passes;
        score = was.score;
        most = λ b below ok. last_or (λ (k : ℕ). int_le (value k) (value s.block) ≡ true) n b below (λ less. was.most b less ok) (rw was.score at e);
        first = was.first;
      }
      turn false e =
          let above : int_le (value n) (value s.block) ≡ false = rw was.score at e in
          record {
            below = omega arith;
            passes = passes;
            score = refl;
            most = λ b below ok. last_or (λ (k : ℕ). int_le (value k) (value n) ≡ true) n b below (λ less. le_over (value b) (value s.block) (value n) (was.most b less ok) (le_other (value n) (value s.block) above)) (le_self (value n));
            first = λ b below ok. le_under (value b) (value n) (value s.block) (was.most b below ok) above;
          }

  first_no : (n : ℕ) (best : Option Scored) → test n ≡ false → IsFirst test value n best → IsFirst test value (n + 1) best
  first_no n None fails was = λ b below. last_or (λ (k : ℕ). test k ≡ false) n b below (λ less. was b less) fails
  first_no n (Some s) fails was = record {
    below = omega (arith, was.below);
    passes = was.passes;
    score = was.score;
    most = λ b below. last_or (λ (k : ℕ). test k ≡ true → int_le (value k) (value s.block) ≡ true) n b below (λ less ok. was.most b less ok) (λ ok. absurd (cc));
    first = was.first;
  }

  pub first_more : (n : ℕ) (best : Option Scored) → IsFirst test value n best → IsFirst test value (n + 1) (if test n then better_of best (record { block = n; score = value n }) else best)
  first_more n best was = turn (test n) refl
    where
      turn : (passes : Bool) → test n ≡ passes → IsFirst test value (n + 1) (if passes then better_of best (record { block = n; score = value n }) else best)
      turn true e = first_yes n best e was
      turn false e = first_no n best e was

-- the best stays below a number that the other one is below
pub below_more : (n : ℕ) (passes : Bool) (best : Option Scored) (other : Scored) → other.block < n → IsBelow n best → IsBelow n (if passes then better_of best other else best)
below_more n false best other low was = was
below_more n true None other low was = low
below_more n true (Some s) other low was = either (int_le other.score s.score)
  where
    either : (b : Bool) → IsBelow n (if b then Some s else Some other)
    either true = was
    either false = low

-- ---- all of them

module _ (test : ℕ → Bool) where
  any_at : (k a n : ℕ) → a ≤ k → k < a + n → test k ≡ true → list_any test (range_with_len a n) ≡ true
  any_at k a zero low high passes = absurd (omega arith)
  any_at k a (suc n) low high passes =
      ⊎_elim
      (λ (here : a ≡ k). let t : test a ≡ true = ap test here ∙ passes in rw t refl)
      (λ (there : a ≡ k → ⊥).
      let rest = any_at k (a + 1) n (omega (arith, there)) (omega arith) passes in
      ⊎_elim (λ (yes : test a ≡ true). rw yes refl) (λ (no : test a ≡ false). rw no rest) (cases_Bool (test a)))
      (cases_eq a k)

  none_any : (a n : ℕ) → ((b : ℕ) → b < a + n → test b ≡ false) → list_any test (range_with_len a n) ≡ false
  none_any a zero none = refl
  none_any a (suc n) none = rw (none a (omega arith)) (none_any (a + 1) n (λ b high. none b (omega arith)))

-- the first of the greatest value among those that pass is found
pub first_found : (test : ℕ → Bool) (value : ℕ → ℤ) (n : ℕ) (best : Option Scored) → IsFirst test value n best →
    find (λ k. list_all (λ other. int_le (value other) (value k)) (filter test (range_with_len 0 n))) (filter test (range_with_len 0 n)) ≡ option_map (λ s. s.block) best
first_found test value n None none = rw (none_pass test 0 n (λ b low high. none b (omega arith))) refl
first_found test value n (Some s) is =
    find_best test (λ k other. int_le (value other) (value k)) n s.block is.below is.passes (λ b below ok. is.most b below ok) (λ b low ok. is.first b low ok)

-- there is one exactly where one passes
pub first_some : (test : ℕ → Bool) (value : ℕ → ℤ) (n : ℕ) (best : Option Scored) → IsFirst test value n best → list_any test (range_with_len 0 n) ≡ is_some best
first_some test value n None none = none_any test 0 n (λ b high. none b (omega arith))
first_some test value n (Some s) is = any_at test s.block 0 n (omega arith) (omega (arith, is.below)) is.passes

-- ---- those of the rest that pass another test

pub filter_both : (t p : ℕ → Bool) (xs : List ℕ) → filter p (filter t xs) ≡ filter (λ x. t x && p x) xs
filter_both t p [] = refl
filter_both t p (x ∷ xs) =
    let rest = filter_both t p xs in
    ⊎_elim
    (λ (yes : t x ≡ true). ⊎_elim (λ (both : p x ≡ true). rw (yes, both) (ap (λ (ys : List ℕ). x ∷ ys) rest)) (λ (one : p x ≡ false). rw (yes, one) rest) (cases_Bool (p x)))
    (λ (no : t x ≡ false). rw no rest)
    (cases_Bool (t x))

pub any_both : (t p : ℕ → Bool) (xs : List ℕ) → list_any p (filter t xs) ≡ list_any (λ x. t x && p x) xs
any_both t p [] = refl
any_both t p (x ∷ xs) =
    let rest = any_both t p xs in
    ⊎_elim
    (λ (yes : t x ≡ true). ⊎_elim (λ (both : p x ≡ true). rw (yes, both) refl) (λ (one : p x ≡ false). rw (yes, one) rest) (cases_Bool (p x)))
    (λ (no : t x ≡ false). rw no rest)
    (cases_Bool (t x))

-- ---- whether one passes, one after the other

pub any_more : (test : ℕ → Bool) (p e : ℕ) (so_far all : Bool) → p < e → (so_far || list_any test (range_with_len p (e - p))) ≡ all → ((so_far || test p) || list_any test (range_with_len (p + 1) (e - (p + 1)))) ≡ all
any_more test p e true all h was = was
any_more test p e false all h was = let n : e - p ≡ suc (e - (p + 1)) = omega arith in rw n at was

pub any_end : (test : ℕ → Bool) (p e : ℕ) (so_far all : Bool) → e ≤ p → (so_far || list_any test (range_with_len p (e - p))) ≡ all → so_far ≡ all
any_end test p e true all h was = was
any_end test p e false all h was = let n : e - p ≡ 0 = omega arith in rw n at was
