-- The file that a remove takes out.
use Rattle.std.specs.Prelude.{◌≡◌, ℕ, List, Option, Some, None, Result, Ok, Err}
use Rattle.std.specs.Option.{option_map}
use Rattle.table_model.specs.declared.error.FsErr.{FsErr}
use Rattle.table_model.specs.declared.error.FsErr.TheVariants.{NotFound, DeviceFault}
use Rattle.table_model.specs.Table.{File, file_named}

-- the id of the file of a name
abbrev pub id_named : List ℕ → List File → Option ℕ
id_named name files = option_map (λ f. f.id) (file_named name files)

-- no file has a name
abbrev pub IsMissing : List ℕ → List File → FsErr → Type 0
IsMissing name files why = (why ≡ NotFound) × (file_named name files ≡ None)

-- the id of the file of a name, or that there is none
abbrev pub FindsNamed : List ℕ → List File → Result ℕ FsErr → Type 0
FindsNamed name files (Ok id) = id_named name files ≡ Some id
FindsNamed name files (Err why) = ¬ (why ≡ DeviceFault) → IsMissing name files why
