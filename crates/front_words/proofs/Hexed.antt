-- How hexadecimal digits are read one after the other.
use Rattle.std.proofs.Common.{◌≡◌, ℕ, ◌+◌, ◌*◌, ◌<◌, List, [], ◌∷◌, length, get_or, drop, Bool, true, false, cond, leb, Some, None, refl, arith}
use Rattle.std.specs.Char.{digit_value}
use Rattle.std.proofs.lemmas.Grind.{common_steps}
use Rattle.std.proofs.lemmas.List.{drop_more}
use Rattle.call_script.specs.Texts.{is_hex}
use Rattle.front_words.specs.Amounts.{hex_after, up_to}

-- digits behind those of a number that is too large
beyond : (n : ℕ) (ds : List ℕ) → 4294967295 < n → up_to (hex_after n ds) ≡ None
beyond n [] large = let t : leb n 4294967295 ≡ false = grind (arith, common_steps) in rw t refl
beyond n (d ∷ ds) large =
    elim (is_hex d) as (λ v. up_to (cond v (hex_after (n * 16 + digit_value d) ds) None) ≡ None) [ true ↦ beyond (n * 16 + digit_value d) ds (omega arith) | false ↦ refl ]

-- a digit that makes the number too large
pub too_large : (n : ℕ) (xs : List ℕ) (i : ℕ) → i < length xs → is_hex (get_or xs i 0) ≡ true → 4294967295 < n * 16 + digit_value (get_or xs i 0) → up_to (hex_after n (drop i xs)) ≡ None
too_large n xs i h digit large = rw (drop_more xs i 0 h) (rw digit (beyond (n * 16 + digit_value (get_or xs i 0)) (drop (i + 1) xs) large))

-- another digit, or none
pub hex_on : (n : ℕ) (xs : List ℕ) (i : ℕ) → i < length xs → is_hex (get_or xs i 0) ≡ true → up_to (hex_after n (drop i xs)) ≡ up_to (hex_after (n * 16 + digit_value (get_or xs i 0)) (drop (i + 1) xs))
hex_on n xs i h digit = rw (drop_more xs i 0 h) (rw digit refl)

pub hex_off : (n : ℕ) (xs : List ℕ) (i : ℕ) → i < length xs → is_hex (get_or xs i 0) ≡ false → up_to (hex_after n (drop i xs)) ≡ None
hex_off n xs i h digit = rw (drop_more xs i 0 h) (rw digit refl)
