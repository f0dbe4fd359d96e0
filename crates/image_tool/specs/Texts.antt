-- What a list says.
use Rattle.std.specs.Prelude.{ℕ, List, [], ◌∷◌, ◌++◌, codes, decimal, Option, Some, None}
use Rattle.std.specs.List.{flat_map}
use Rattle.table_model.specs.Table.{File}
use Rattle.table_model.specs.Files.{stat_of}
use Rattle.table_model.specs.declared.reply.Stat.{Stat}
use Rattle.image_model.specs.declared.damage.Damage.{Damage}
use Rattle.image_model.specs.declared.damage.Damage.TheVariants.{BadName, Missing, SameName}
use Rattle.call_script.specs.Texts.{printed}

-- a line of the id, type number, size and printed name of a file
unfoldable pub stat_line : Stat → List ℕ
stat_line s = decimal s.id ++ 32 ∷ decimal s.kind ++ 32 ∷ decimal s.size ++ 32 ∷ printed s.name ++ 10 ∷ []

-- the line of a file of the table
abbrev pub record_line : File → List ℕ
record_line f = stat_line (stat_of f)

-- a cause of damage: the missing data span, the name, or the id of the file that counts under the same name
abbrev pub cause_text : Damage → List ℕ
cause_text (Missing span) = codes " span " ++ decimal span
cause_text BadName = codes " name"
cause_text (SameName id) = codes " same " ++ decimal id

-- the line of a damaged id
unfoldable pub damage_line : ℕ → Damage → List ℕ
damage_line id cause = codes "damaged " ++ decimal id ++ cause_text cause ++ 10 ∷ []

-- the lines of the files of a table
unfoldable pub record_lines : List File → List ℕ
record_lines files = flat_map record_line files

-- the lines of damaged ids
unfoldable pub damage_lines : List (ℕ × Damage) → List ℕ
damage_lines damaged = flat_map (λ d. damage_line d.0 d.1) damaged

-- a list: the files of the table, then the damaged ids
abbrev pub list_text : List File → List (ℕ × Damage) → List ℕ
list_text files damaged = record_lines files ++ damage_lines damaged

-- the line of what there may be, or nothing
abbrev pub line_if : {X : Type 0} → (X → List ℕ) → Option X → List ℕ
line_if line None = []
line_if line (Some x) = line x

-- what there may be, as a list
abbrev pub list_if : {X : Type 0} → Option X → List X
list_if None = []
list_if (Some x) = x ∷ []
