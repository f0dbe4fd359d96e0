-- A walk over numbers that keeps the greatest value so far.
use Rattle.std.proofs.Common.{◌≡◌, ℕ, suc, ◌+◌, ◌-◌, ◌<◌, ◌≤◌, Bool, true, false, arith, max, map, ⊎_elim}
use Rattle.std.specs.Prelude.{filter, if◌then◌else◌}
use Rattle.std.specs.List.{range_with_len, fold}
use Rattle.std.proofs.lemmas.Bool.{cases_Bool}

module _ (test : ℕ → Bool) (value : ℕ → ℕ) (most p end total : ℕ) (so_far : fold max most (map value (filter test (range_with_len p (end - p)))) ≡ total) where
  pub greatest_more : (behind next : ℕ) → p < end → behind ≡ (if test p then value p else 0) → next ≡ max behind most → fold max next (map value (filter test (range_with_len (p + 1) (end - (p + 1))))) ≡ total
  greatest_more behind next low is next_is =
      let left : end - p ≡ suc (end - (p + 1)) = omega arith in
      let rest = rw left at so_far in
      ⊎_elim
      (λ (yes : test p ≡ true).
      let one : behind ≡ value p = rw yes at is in
      let more : next ≡ max most (value p) = omega (arith, one, next_is) in
      rw more (rw yes at rest))
      (λ (no : test p ≡ false).
      let none : behind ≡ 0 = rw no at is in
      let more : next ≡ most = omega (arith, none, next_is) in
      rw more (rw no at rest))
      (cases_Bool (test p))

  pub greatest_end : end ≤ p → most ≡ total
  greatest_end past = let left : end - p ≡ 0 = omega arith in rw left at so_far
