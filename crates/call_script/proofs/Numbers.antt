-- How digits are read one after the other.
use Rattle.std.proofs.Common.{◌≡◌, ℕ, ◌+◌, ◌-◌, ◌*◌, ◌<◌, List, [], ◌∷◌, length, get_or, drop, refl, arith, true, false, cond, eqb, Some, None, pos}
use Rattle.std.proofs.lemmas.Grind.{common_steps}
use Rattle.std.proofs.lemmas.List.{drop_more}
use Rattle.std.specs.Char.{is_ascii_digit}
use Rattle.call_script.specs.Numerals.{digits_after, at_most, number_of, number_up_to, signed_up_to}

-- digits behind those of a number that is too large
pub beyond : (most n : ℕ) (ds : List ℕ) → most < n → at_most most (digits_after n ds) ≡ None
beyond most n [] h = grind (arith, common_steps)
beyond most n (d ∷ ds) h =
    elim (is_ascii_digit d) as (λ v. at_most most (cond v (digits_after (10 * n + (d - 48)) ds) None) ≡ None) [ true ↦ beyond most (10 * n + (d - 48)) ds (omega arith) | false ↦ refl ]

-- a digit that makes the number too large
pub too_large : (most n : ℕ) (xs : List ℕ) (i : ℕ) → i < length xs → is_ascii_digit (get_or xs i 0) ≡ true → most < 10 * n + (get_or xs i 0 - 48) → at_most most (digits_after n (drop i xs)) ≡ None
too_large most n xs i h digit large = rw (drop_more xs i 0 h) (rw digit (beyond most (10 * n + (get_or xs i 0 - 48)) (drop (i + 1) xs) large))

-- a number without a sign
pub signed_plain : (most : ℕ) (word : List ℕ) (n : ℕ) → number_up_to most word ≡ Some n → (get_or word 0 0 ≡ 45 → ⊥) → signed_up_to most word ≡ Some (pos n)
unfolding signed_up_to number_up_to number_of
signed_plain most [] n e plain = cc
signed_plain most (b ∷ bs) n e plain = let t : eqb b 45 ≡ false = grind (arith, common_steps) in rw t (rw e refl)
