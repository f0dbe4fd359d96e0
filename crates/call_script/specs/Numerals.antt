-- Numbers as words of decimal digits.
use Rattle.std.specs.Prelude.{ℕ, ℤ, pos, negsuc, ◌+◌, ◌-◌, ◌*◌, List, [], ◌∷◌, Option, Some, None, option_and_then, ◌==◌, nat_le, if◌then◌else◌}
use Rattle.std.specs.Char.{is_ascii_digit}

-- the number that decimal digits spell behind those of n
abbrev pub digits_after : ℕ → List ℕ → Option ℕ
digits_after n [] = Some n
digits_after n (d ∷ ds) = if is_ascii_digit d then digits_after (10 * n + (d - 48)) ds else None

-- the number that a word spells: one digit, or several of which the first is no zero
unfoldable pub number_of : List ℕ → Option ℕ
number_of [] = None
number_of (d ∷ []) = digits_after 0 (d ∷ [])
number_of (d ∷ e ∷ ds) = if d == 48 then None else digits_after 0 (d ∷ e ∷ ds)

-- a number, where it is at most the greatest that is allowed
abbrev pub at_most : ℕ → Option ℕ → Option ℕ
at_most most None = None
at_most most (Some n) = if nat_le n most then Some n else None

-- The number that a word spells, where it is at most `most`. Up to 4,294,967,295 it has ten digits at most.
unfoldable pub number_up_to : ℕ → List ℕ → Option ℕ
number_up_to most word = at_most most (number_of word)

-- less than zero by n; no number is spelled `-0`
abbrev pub below_zero : ℕ → Option ℤ
below_zero n = if n == 0 then None else Some (negsuc (n - 1))

-- the number that a word spells, with a `-` before it where it is below zero
unfoldable pub signed_up_to : ℕ → List ℕ → Option ℤ
signed_up_to most [] = None
signed_up_to most (b ∷ bs) =
    if b == 45 then option_and_then below_zero (number_up_to most bs)
    else option_and_then (λ n. Some (pos n)) (number_up_to most (b ∷ bs))
