-- What a reader answers, on any image.
use Rattle.std.specs.Prelude.{◌≡◌, ℕ, List, Some, None, Result, Ok, Err}
use Rattle.geometry.specs.declared.geometry.Geometry.{Geometry}
use Rattle.table_model.specs.declared.error.FsErr.{FsErr}
use Rattle.table_model.specs.declared.error.FsErr.TheVariants.{NotFound, DeviceFault, Damaged}
use Rattle.table_model.specs.Table.{File, file_of}
use Rattle.image_model.specs.Tables.{table_of}
use Rattle.file_read.specs.Whole.{IsRead}
use Rattle.file_read.specs.Missing.{IsNoPage}

-- how a read of an id goes: its file's bytes, or the table has no such file
abbrev pub ReadAnswers : Geometry → List ℕ → ℕ → ℕ → List ℕ → List ℕ → Result ℕ FsErr → Type 0
ReadAnswers g image id at old new (Ok n) = (f : File) × (file_of id (table_of g image) ≡ Some f) × IsRead f at old new n
ReadAnswers g image id at old new (Err NotFound) = file_of id (table_of g image) ≡ None
ReadAnswers g image id at old new (Err DeviceFault) = Unit {0}
ReadAnswers g image id at old new (Err why) = ⊥

-- an error of a read: a fault, no such file, or a page that is no longer there
abbrev pub IsReadErr : ℕ → FsErr → Type 0
IsReadErr id NotFound = Unit {0}
IsReadErr id DeviceFault = Unit {0}
IsReadErr id (Damaged differ) = IsNoPage id differ
IsReadErr id why = ⊥
