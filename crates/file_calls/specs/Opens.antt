-- What an opening finds.
use Rattle.std.specs.Prelude.{◌≡◌, ◌⊎◌, ◌&&◌, ℕ, List, true, false, Option, Some, None, Result, Ok, Err}
use Rattle.table_model.specs.declared.error.FsErr.{FsErr}
use Rattle.table_model.specs.declared.error.FsErr.TheVariants.{BadFlags, OutOfDescriptors, NotFound, FileExists, DeviceFault}
use Rattle.table_model.specs.Table.{Open, File, file_named}
use Rattle.table_model.specs.Descriptors.{is_bad_flags, makes, is_exclusive, lowest_closed}
use Rattle.file_calls.specs.Removes.{id_named}

-- the descriptor of an opening: the lowest closed one, where the flags are fine
abbrev pub TakesSlot : (flags : ℕ) → List (Option Open) → Result ℕ FsErr → Type 0
TakesSlot flags slots (Ok fd) = (is_bad_flags flags ≡ false) × (lowest_closed slots ≡ Some fd)
TakesSlot flags slots (Err why) =
    ((why ≡ BadFlags) × (is_bad_flags flags ≡ true)) ⊎ ((why ≡ OutOfDescriptors) × (is_bad_flags flags ≡ false) × (lowest_closed slots ≡ None))

-- its file: one that is there, which isn't to be new, or none, which is to be made
abbrev pub FindsOpened : (name : List ℕ) (flags : ℕ) → List File → Result (Option ℕ) FsErr → Type 0
FindsOpened name flags files (Ok (Some id)) = (id_named name files ≡ Some id) × ((makes flags && is_exclusive flags) ≡ false)
FindsOpened name flags files (Ok None) = (file_named name files ≡ None) × (makes flags ≡ true)
FindsOpened name flags files (Err why) = ¬ (why ≡ DeviceFault) →
    ((why ≡ FileExists) × ((f : File) × (file_named name files ≡ Some f)) × ((makes flags && is_exclusive flags) ≡ true))
    ⊎ ((why ≡ NotFound) × (file_named name files ≡ None) × (makes flags ≡ false))
