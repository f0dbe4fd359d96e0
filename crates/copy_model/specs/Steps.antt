-- What a cut in a call of a copy leaves: the table before the call, or the one after it.
use Rattle.std.specs.Prelude.{◌≡◌, ℕ, ◌+◌, ◌<◌, ◌≤◌, ◌%◌, ◌⊎◌, List, ◌∷◌, length, Bool, true, false}
use Rattle.geometry.specs.declared.geometry.Geometry.{Geometry}
use Rattle.geometry.specs.Numbers.{body}
use Rattle.table_model.specs.Table.{File, State}
use Rattle.table_model.specs.Ask.{Ask, Writes, Fills}
use Rattle.table_model.specs.Flat.{answer}
use Rattle.table_model.specs.Steps.{steps}
use Rattle.table_model.specs.Window.{IsAmong}
use Rattle.copy_model.specs.Copying.{begun}
use Rattle.copy_model.specs.Filling.{filling}
use Rattle.copy_model.specs.Answers.{IsPiece}

-- a call that writes no bytes
abbrev pub writes_none : Ask → Bool
writes_none (Writes fd bytes) = false
writes_none (Fills fd count byte) = false
writes_none _ = true

-- Each such call has at most one step.
abbrev pub OneStep : Geometry → Type 0
OneStep g = (spare : Bool) (s : State) (ask : Ask) (t : List File) → writes_none ask ≡ true → IsAmong t (s.table ∷ steps g spare s ask) →
    (t ≡ s.table) ⊎ (t ≡ (answer g spare s ask).next.table)

-- So has a write to the working file from the start of a data page on, of at most a page.
abbrev pub OnePage : Geometry → Type 0
OnePage g = (slots : ℕ) (f : File) (files : List File) (at : ℕ) (bytes : List ℕ) (t : List File) → 0 < slots → 0 < length bytes → IsPiece f at bytes →
    at % body g ≡ 0 → length bytes ≤ body g →
    IsAmong t (begun g f files at ∷ steps g true (filling g slots f files at) (Writes 1 bytes)) →
    (t ≡ begun g f files at) ⊎ (t ≡ begun g f files (at + length bytes))
