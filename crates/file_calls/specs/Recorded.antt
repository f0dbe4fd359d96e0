-- The record of a descriptor's file.
use Rattle.std.specs.Prelude.{◌≡◌, ◌≢◌, ℕ, List, Some, None, Result, Ok, Err}
use Rattle.std.specs.Option.{option_map}
use Rattle.table_model.specs.declared.error.FsErr.{FsErr}
use Rattle.table_model.specs.declared.error.FsErr.TheVariants.{DeviceFault, Damaged}
use Rattle.table_model.specs.declared.reply.Stat.{Stat}
use Rattle.table_model.specs.Table.{File, file_of}
use Rattle.table_model.specs.Files.{stat_of}

-- a look for a page that must be there fails with the device, or misses it: two tags that differ
abbrev pub MayMiss : FsErr → Type 0
MayMiss DeviceFault = Unit {0}
MayMiss (Damaged d) = d.wanted ≢ d.found
MayMiss why = ⊥

-- the record of the file of an id, or that there is none
abbrev pub TellsRecord : ℕ → List File → Result Stat FsErr → Type 0
TellsRecord id files (Ok stat) = Some stat ≡ option_map stat_of (file_of id files)
TellsRecord id files (Err why) = ¬ (why ≡ DeviceFault) → file_of id files ≡ None
