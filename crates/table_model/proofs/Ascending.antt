-- Lists whose keys rise.
use Rattle.std.proofs.Common.{◌≡◌, ℕ, zero, suc, ◌+◌, ◌<◌, ◌≤◌, List, [], ◌∷◌, Option, Some, None, refl, sym, arith, subst}
use Rattle.std.specs.Prelude.{nat_lt, find}
use Rattle.std.specs.List.{range_with_len, filter_map, cons_option}
use Rattle.std.proofs.lemmas.Bool.{lt-ltb, le-ltb}

-- the keys rise, from above a number on
unfoldable pub Ascends : {X : Type 0} (key : X → ℕ) (low : ℕ) → List X → Type 0
Ascends key low [] = Unit {0}
Ascends key low (x ∷ xs) = (low < key x) × Ascends key (key x) xs

module _ {X : Type 0} (key : X → ℕ) where
  lower : (low less : ℕ) (xs : List X) → less ≤ low → Ascends key low xs → Ascends key less xs
  unfolding Ascends
  lower low less [] le h = tt {0}
  lower low less (x ∷ xs) le h = (omega (arith, h.0), h.1)

  one_more : (low a : ℕ) (o : Option X) (xs : List X) → low < a → ((x : X) → o ≡ Some x → key x ≡ a) → Ascends key a xs → Ascends key low (cons_option o xs)
  unfolding Ascends
  one_more low a None xs lt keyed h = lower a low xs (omega arith) h
  one_more low a (Some x) xs lt keyed h = let e = keyed x refl in (omega (arith, e), subst (λ (n : ℕ). Ascends key n xs) (sym e) h)

  -- what each number of a range gives, where that goes by the number
  pub ranged : (h : ℕ → Option X) → ((j : ℕ) (x : X) → h j ≡ Some x → key x ≡ j) → (low a n : ℕ) → low < a → Ascends key low (filter_map h (range_with_len a n))
  unfolding Ascends
  ranged h keyed low a zero lt = tt {0}
  ranged h keyed low a (suc n) lt = one_more low a (h a) _ lt (keyed a) (ranged h keyed a (a + 1) n (omega arith))

  -- the first one above a number, where the list begins above it
  pub head_found : (x : X) (xs : List X) (after : ℕ) → after < key x → find (λ (y : X). nat_lt after (key y)) (x ∷ xs) ≡ Some x
  head_found x xs after lt = rw (lt-ltb after (key x) lt) refl

  -- it isn't one that is no greater
  pub found_behind : (x : X) (xs : List X) (id : ℕ) → key x ≤ id → find (λ (y : X). nat_lt id (key y)) (x ∷ xs) ≡ find (λ (y : X). nat_lt id (key y)) xs
  found_behind x xs id le = rw (le-ltb id (key x) le) refl
