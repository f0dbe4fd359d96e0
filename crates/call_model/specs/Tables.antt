-- Tables whose files go by their ids.
use Rattle.std.specs.Prelude.{◌≡◌, ℕ, List, Some}
use Rattle.table_model.specs.Table.{File, file_of, file_named}

-- the file of a name is the one of its id
abbrev pub NamesById : List File → Type 0
NamesById files = (name : List ℕ) (f : File) → file_named name files ≡ Some f → file_of f.id files ≡ Some f
