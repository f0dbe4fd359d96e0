-- What a draw of a soak asks for.
use Rattle.std.specs.Prelude.{ℕ, ◌+◌, ◌/◌, ◌%◌, ◌==◌, if◌then◌else◌, List, [], ◌∷◌}
use Rattle.volume_soak.specs.declared.draws.Kind.{Kind}
use Rattle.volume_soak.specs.declared.draws.Kind.TheVariants.{Adds, Makes, Drops, Looks}

-- the file of a draw: the letter f and a digit below 8
abbrev pub name_of : ℕ → List ℕ
name_of r = 0x66 ∷ (0x30 + r % 8) ∷ []

-- how many bytes it writes, from 1 to 600
abbrev pub count_of : ℕ → ℕ
count_of r = r / 32 % 600 + 1

-- the value of each of them
abbrev pub byte_of : ℕ → ℕ
byte_of r = r % 256

-- what it does: 0 adds to the file, 1 makes it anew, 2 removes it, 3 reads it
abbrev pub kind_numbered : ℕ → Kind
kind_numbered k = if k == 0 then Adds else if k == 1 then Makes else if k == 2 then Drops else Looks

abbrev pub kind_of : ℕ → Kind
kind_of r = kind_numbered (r / 8 % 4)
