-- What stands against a new page, and against a new file.
use Rattle.std.specs.Prelude.{◌≡◌, ◌⊎◌, ℕ, ◌+◌, List, length, nat_le, Bool, true, false, not, nat_lt, Option, Some, None, Result, Ok, Err, if◌then◌else◌}
use Rattle.geometry.specs.declared.geometry.Geometry.{Geometry}
use Rattle.geometry.specs.Numbers.{ceil, entries}
use Rattle.table_model.specs.declared.error.FsErr.{FsErr}
use Rattle.table_model.specs.declared.error.FsErr.TheVariants.{ConflictingName, Tight, Full, DeviceFault}
use Rattle.table_model.specs.Table.{File, has_name, file_of, least_id}
use Rattle.table_model.specs.Outcome.{page_refusal}
use Rattle.table_model.specs.Room.{index_count, data_count}
use Rattle.image_model.specs.Tables.{table_of}
use Rattle.image_model.specs.Tidy.{free_blocks, has_spare}

-- a table has room with so many index pages more than it has
unfoldable pub has_room_beside : Geometry → List File → ℕ → Bool
has_room_beside g files more = nat_le (ceil (index_count g files + (more + 1)) (entries g) + ceil (data_count g files + 1) (entries g) + 2) g.blocks

-- Why no index page is had for a call that leaves so many more of them, if none is: fewer than two blocks are free, or the table after
-- the call has no room. Else garbage collection gives one.
unfoldable pub page_lack : Geometry → List ℕ → (more : ℕ) → Option FsErr
page_lack g image more =
    if nat_lt (free_blocks g image) 2 then Some Tight
    else if not (has_room_beside g (table_of g image) more) then Some Full
    else None

-- a page is had, or what stands against it
abbrev pub HasPage : Geometry → List ℕ → (more : ℕ) → Result (Unit {0}) FsErr → Type 0
HasPage g image more (Ok done) = page_lack g image more ≡ None
HasPage g image more (Err why) = ¬ (why ≡ DeviceFault) → page_lack g image more ≡ Some why

-- the pages for a call that leaves a table are had, or what stands against them
abbrev pub HasRoomAfter : Geometry → List ℕ → List File → Result (Unit {0}) FsErr → Type 0
HasRoomAfter g image files (Ok done) = page_refusal g (has_spare g image) files ≡ None
HasRoomAfter g image files (Err why) = ¬ (why ≡ DeviceFault) → page_refusal g (has_spare g image) files ≡ Some why

-- a file gets so many bytes in the place of others
pub record IsResized (files : List File) (from to : ℕ) (f new : File) : Type 0 where
  pub there : file_of f.id files ≡ Some f
  pub same : new.id ≡ f.id
  pub was : length f.bytes ≡ from
  pub now : length new.bytes ≡ to

-- the id of a new file, where nothing stands against it, or what does
abbrev pub Prepares : Geometry → List ℕ → Result ℕ FsErr → Type 0
Prepares g image (Ok id) = (page_lack g image 1 ≡ None) × (id ≡ least_id (table_of g image))
Prepares g image (Err why) = ¬ (why ≡ DeviceFault) → page_lack g image 1 ≡ Some why

-- no file has a name that is to be made, or one has
abbrev pub IsNewName : List ℕ → List File → Result (Unit {0}) FsErr → Type 0
IsNewName name files (Ok done) = has_name name files ≡ false
IsNewName name files (Err why) = ¬ (why ≡ DeviceFault) → (why ≡ ConflictingName) × (has_name name files ≡ true)

-- Why there is no new file of a name: a file has it, or none has it and something stands against a page.
abbrev pub IsNotNew : Geometry → List ℕ → (name : List ℕ) → FsErr → Type 0
IsNotNew g image name why = ((why ≡ ConflictingName) × (has_name name (table_of g image) ≡ true))
    ⊎ ((has_name name (table_of g image) ≡ false) × (page_lack g image 1 ≡ Some why))

-- the id of a new file of a name that no file has, or why there is none
abbrev pub PreparesNamed : Geometry → List ℕ → (name : List ℕ) → Result ℕ FsErr → Type 0
PreparesNamed g image name (Ok id) = (has_name name (table_of g image) ≡ false) × Prepares g image (Ok id)
PreparesNamed g image name (Err why) = ¬ (why ≡ DeviceFault) → IsNotNew g image name why
