-- The words of a line as its reader parts them.
use Rattle.std.specs.Prelude.{◌≡◌, ℕ, ◌<◌, List, [], ◌∷◌, length, Option, Some, None}
use Rattle.std.specs.Borrow.{Bor}
use Rattle.call_script.specs.declared.words.Words.{Words}
use Rattle.call_script.specs.declared.words.Words.TheVariants.{One, Two, Three, Four, More}
use Rattle.call_script.specs.Lines.{words}

-- the first word and the line behind it
abbrev pub IsFirst : List ℕ → Option (Bor (List ℕ)) → List (List ℕ) → Type 0
IsFirst word None all = all ≡ word ∷ []
IsFirst word (Some rest) all = all ≡ word ∷ words rest.now

-- these words, or more than four
abbrev pub IsSplit : Words → List (List ℕ) → Type 0
IsSplit (One a) all = all ≡ a.now ∷ []
IsSplit (Two a b) all = all ≡ a.now ∷ b.now ∷ []
IsSplit (Three a b c) all = all ≡ a.now ∷ b.now ∷ c.now ∷ []
IsSplit (Four a b c d) all = all ≡ a.now ∷ b.now ∷ c.now ∷ d.now ∷ []
IsSplit More all = 4 < length all
