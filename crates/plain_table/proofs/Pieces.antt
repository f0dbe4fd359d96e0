-- A front and a rest of a list, cut at its end at most.
use Rattle.std.proofs.Common.{◌≡◌, ℕ, zero, suc, List, [], ◌∷◌, length, take, drop, min, refl, ap}
use native.Mathlib.Numerals.{unary_clauses}

pub take_least : {X : Type 0} (n : ℕ) (xs : List X) → take (min n (length xs)) xs ≡ take n xs
take_least zero xs = simp unary_clauses refl
take_least (suc n) [] = simp unary_clauses refl
take_least (suc n) (x ∷ xs) = simp unary_clauses (ap (λ l. x ∷ l) (take_least n xs))

pub drop_least : {X : Type 0} (n : ℕ) (xs : List X) → drop (min n (length xs)) xs ≡ drop n xs
drop_least zero xs = simp unary_clauses refl
drop_least (suc n) [] = simp unary_clauses refl
drop_least (suc n) (x ∷ xs) = simp unary_clauses (drop_least n xs)
