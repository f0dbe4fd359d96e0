-- The words of the command.
use Rattle.std.specs.Prelude.{ℕ, List, [], ◌∷◌, length, Bool, false, not, nat_eq, ◌==◌, ◌&&◌, codes}
use Rattle.std.specs.Cmp.Lexicographic.{pointwise}

-- The words are `detect CHIP`, in which CHIP is any word that isn't empty.
abbrev pub is_command : List (List ℕ) → Bool
is_command [] = false
is_command (verb ∷ []) = false
is_command (verb ∷ chip ∷ []) = pointwise nat_eq verb (codes "detect") && not (length chip == 0)
is_command (verb ∷ chip ∷ more ∷ others) = false
