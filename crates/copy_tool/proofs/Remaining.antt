-- How many are left in a list that is gone through in order of keys.
use Rattle.std.proofs.Common.{◌≡◌, ℕ, suc, ◌+◌, ◌<◌, ◌≤◌, List, [], ◌∷◌, Option, Some, None, length, ap, refl, sym, arith, subst, ⊎_elim}
use Rattle.std.specs.Prelude.{nat_lt, find, filter}
use Rattle.std.specs.Option.{option_map}
use Rattle.std.proofs.lemmas.Bool.{lt-ltb, le-ltb, cases_lt}
use Rattle.std.proofs.lemmas.Option.{none-some, same_Some}
use Rattle.table_model.proofs.Ascending.{Ascends}

-- how many of a list have a key above a number
unfoldable pub left_above : {X : Type 0} → (X → ℕ) → ℕ → List X → ℕ
left_above key after xs = length (filter (λ x. nat_lt after (key x)) xs)

module _ {X : Type 0} (key : X → ℕ) where
  -- what is found above a number is above it
  found_above : (after : ℕ) (xs : List X) (x : X) → find (λ y. nat_lt after (key y)) xs ≡ Some x → after < key x
  found_above after [] x is = absurd (none-some x is)
  found_above after (y ∷ ys) x is = ⊎_elim
      (λ (above : after < key y). subst (λ (z : X). after < key z) (same_Some y x (rw (lt-ltb after (key y) above) at is)) above)
      (λ (below : key y ≤ after). found_above after ys x (rw (le-ltb after (key y) below) at is))
      (cases_lt after (key y))

  -- all, where all keys are above it
  pub all_left : (after low : ℕ) (xs : List X) → after ≤ low → Ascends key low xs → left_above key after xs ≡ length xs
  unfolding left_above Ascends
  all_left after low [] le h = refl
  all_left after low (x ∷ xs) le h = rw (lt-ltb after (key x) (omega (arith, h.0))) (ap (λ (n : ℕ). suc n) (all_left after (key x) xs (omega (arith, h.0)) h.1))

  -- one less behind the first
  pub one_less : (after low : ℕ) (xs : List X) (x : X) → Ascends key low xs → find (λ y. nat_lt after (key y)) xs ≡ Some x → left_above key after xs ≡ 1 + left_above key (key x) xs
  unfolding left_above Ascends
  one_less after low [] x h is = absurd (none-some x is)
  one_less after low (y ∷ ys) x h is = ⊎_elim
      (λ (above : after < key y).
      let here : y ≡ x = same_Some y x (rw (lt-ltb after (key y) above) at is) in
      subst (λ (z : X). length (filter (λ u. nat_lt after (key u)) (y ∷ ys)) ≡ 1 + length (filter (λ u. nat_lt (key z) (key u)) (y ∷ ys))) here
      (rw (lt-ltb after (key y) above, le-ltb (key y) (key y) (omega arith))
      (let rest = all_left after (key y) ys (omega arith) h.1 in let also = all_left (key y) (key y) ys (omega arith) h.1 in omega (arith, rest, also))))
      (λ (below : key y ≤ after).
      let there = rw (le-ltb after (key y) below) at is in
      let low : key y ≤ key x = omega (arith, below, found_above after ys x there) in
      rw (le-ltb after (key y) below, le-ltb (key x) (key y) low) (one_less after (key y) ys x h.1 there))
      (cases_lt after (key y))

  -- none is left
  pub none_left : (after : ℕ) (xs : List X) → find (λ y. nat_lt after (key y)) xs ≡ None → left_above key after xs ≡ 0
  unfolding left_above
  none_left after [] is = refl
  none_left after (y ∷ ys) is = ⊎_elim
      (λ (above : after < key y). absurd (none-some y (sym (rw (lt-ltb after (key y) above) at is))))
      (λ (below : key y ≤ after). rw (le-ltb after (key y) below) (none_left after ys (rw (le-ltb after (key y) below) at is)))
      (cases_lt after (key y))

  some_key : (o : Option X) (id : ℕ) → option_map key o ≡ Some id → (x : X) × (o ≡ Some x) × (key x ≡ id)
  some_key None id is = absurd (none-some id is)
  some_key (Some x) id is = (x, refl, same_Some (key x) id is)

  no_key : (o : Option X) → option_map key o ≡ None → o ≡ None
  no_key None is = refl
  no_key (Some x) is = absurd (none-some (key x) (sym is))

  -- at first none was counted
  pub none_counted : (xs : List X) → Ascends key 0 xs → 0 + left_above key 0 xs ≡ length xs
  none_counted xs h = let all = all_left 0 0 xs (omega arith) h in omega (arith, all)

  -- one more was counted
  pub one_counted : (after id count : ℕ) (xs : List X) → Ascends key 0 xs → option_map key (find (λ y. nat_lt after (key y)) xs) ≡ Some id → count + left_above key after xs ≡ length xs → count + 1 + left_above key id xs ≡ length xs
  one_counted after id count xs h is sum =
      let w = some_key (find (λ y. nat_lt after (key y)) xs) id is in
      let less = one_less after 0 xs w.0 h w.1 in
      let there : left_above key after xs ≡ 1 + left_above key id xs = subst (λ (n : ℕ). left_above key after xs ≡ 1 + left_above key n xs) w.2 less in
      omega (arith, sum, there)

  -- all were counted
  pub all_counted : (after count : ℕ) (xs : List X) → option_map key (find (λ y. nat_lt after (key y)) xs) ≡ None → count + left_above key after xs ≡ length xs → count ≡ length xs
  all_counted after count xs is sum =
      let none = none_left after xs (no_key (find (λ y. nat_lt after (key y)) xs) is) in
      omega (arith, sum, none)
