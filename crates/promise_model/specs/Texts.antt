-- What a rehearsal prints.
use Rattle.std.specs.Prelude.{ℕ, ◌+◌, List, [], ◌∷◌, ◌++◌, length, codes, decimal}
use Rattle.std.specs.List.{flat_map}
use Rattle.table_model.specs.Table.{File}
use Rattle.call_script.specs.Texts.{printed}
use Rattle.promise_model.specs.Places.{Place}

-- the line of a file: its id, type number, size and printed name
unfoldable pub file_line : File → List ℕ
file_line f = decimal f.id ++ 32 ∷ decimal f.kind ++ 32 ∷ decimal (length f.bytes) ++ 32 ∷ printed f.name ++ 10 ∷ []

-- the lines of the files of a table
unfoldable pub files_text : List File → List ℕ
files_text files = flat_map file_line files

-- the line of a table: the number of the line of the call, and which of the tables it is
unfoldable pub step_line : (line step : ℕ) → List ℕ
step_line line step = (codes "line " ++ decimal line) ++ (codes " step " ++ decimal step) ++ 10 ∷ []

-- the tables of a line, the first of that number
unfoldable pub steps_text : (line step : ℕ) → List (List File) → List ℕ
steps_text line step [] = []
steps_text line step (table ∷ others) = step_line line step ++ files_text table ++ steps_text line (step + 1) others

-- the tables of all places
unfoldable pub places_text : List Place → List ℕ
places_text [] = []
places_text (place ∷ others) = steps_text place.line 0 place.tables ++ places_text others
