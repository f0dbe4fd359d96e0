-- The first table of a copy that has no room.
use Rattle.std.specs.Prelude.{◌≡◌, ◌≢◌, ℕ, ◌+◌, ◌-◌, ◌<◌, ◌≤◌, ◌%◌, ◌⊎◌, List, ◌∷◌, length, map, Bool, true, false, Option, Some, None}
use Rattle.std.specs.Option.{option_or}
use Rattle.geometry.specs.declared.geometry.Geometry.{Geometry}
use Rattle.geometry.specs.Numbers.{body}
use Rattle.table_model.specs.Table.{File, put_file}
use Rattle.table_model.specs.Room.{has_room, index_count, data_count, index_pages}
use Rattle.copy_model.specs.Copying.{working, keeps, ends_from, begun, marked, cleared, placed, record_steps, copy_steps}
use Rattle.copy_model.specs.Stops.{first_full}

-- the first table without room, of those with the bytes of a record up to each end from a place on
abbrev pub filling_full : Geometry → File → List File → (at : ℕ) → Option (List File)
filling_full g f files at = first_full g (map (begun g f files) (ends_from (body g) (length f.bytes) at))

-- It is the table of that place, where that has none,
abbrev pub FullHere : Geometry → Type 0
FullHere g = (f : File) (files : List File) (at : ℕ) → (at % body g ≡ 0) ⊎ (at ≡ length f.bytes) → at ≤ length f.bytes →
    has_room g (begun g f files at) ≡ false → filling_full g f files at ≡ Some (begun g f files at)

-- else that from the next end on,
abbrev pub FullLater : Geometry → Type 0
FullLater g = (f : File) (files : List File) (at len : ℕ) → at % body g ≡ 0 → 0 < len → len ≤ body g → at + len ≤ length f.bytes →
    (len ≡ body g) ⊎ (at + len ≡ length f.bytes) → has_room g (begun g f files at) ≡ true → filling_full g f files at ≡ filling_full g f files (at + len)

-- and there is none at the record's end.
abbrev pub FullEnds : Geometry → Type 0
FullEnds g = (f : File) (files : List File) → has_room g (begun g f files (length f.bytes)) ≡ true → filling_full g f files (length f.bytes) ≡ None

-- Once all of a record's bytes have room, what follows has it.
pub record HasRoomBehind (g : Geometry) (alike : Bool) (f : File) (files : List File) : Type 0 where
  pub marked_room : has_room g (put_file (marked g alike f files) files) ≡ true
  pub cleared_room : has_room g (cleared g alike f files) ≡ true
  pub placed_room : has_room g (placed g alike f files) ≡ true

abbrev pub RoomBehind : Geometry → Type 0
RoomBehind g = (alike : Bool) (f : File) (files : List File) → f.name ≢ working → has_room g (begun g f files (length f.bytes)) ≡ true →
    HasRoomBehind g alike f files

-- So only a table of the record's bytes may have none.
abbrev pub RecordFull : Geometry → Type 0
RecordFull g = (alike : Bool) (f : File) (files : List File) → f.name ≢ working → first_full g (record_steps g alike f files) ≡ filling_full g f files 0

-- Of records in order: a record that is kept has no step, and another one's come before those of the records behind it.
abbrev pub StepsKept : Geometry → Type 0
StepsKept g = (alike : Bool) (f : File) (rest files : List File) → keeps alike f files ≡ true →
    copy_steps g alike (f ∷ rest) files ≡ copy_steps g alike rest files

abbrev pub StepsFull : Geometry → Type 0
StepsFull g = (alike : Bool) (f : File) (rest files : List File) → f.name ≢ working → keeps alike f files ≡ false →
    first_full g (copy_steps g alike (f ∷ rest) files) ≡ option_or (filling_full g f files 0) (first_full g (copy_steps g alike rest (placed g alike f files)))

-- The working file as it is made takes an index page.
pub record AddsFile (g : Geometry) (f : File) (files : List File) : Type 0 where
  pub index_are : index_count g (begun g f files 0) ≡ index_count g files + 1
  pub data_are : data_count g (begun g f files 0) ≡ data_count g files

abbrev pub FirstCounts : Geometry → Type 0
FirstCounts g = (f : File) (files : List File) → AddsFile g f files

-- Bytes behind its first ones take a data page, and the index pages of its size.
pub record AddsPage (g : Geometry) (f : File) (files : List File) (at len : ℕ) : Type 0 where
  pub grows : index_pages g at ≤ index_pages g (at + len)
  pub index_are : index_count g (begun g f files (at + len)) ≡ index_count g (begun g f files at) + (index_pages g (at + len) - index_pages g at)
  pub data_are : data_count g (begun g f files (at + len)) ≡ data_count g (begun g f files at) + 1

abbrev pub NextCounts : Geometry → Type 0
NextCounts g = (f : File) (files : List File) (at len : ℕ) → at % body g ≡ 0 → 0 < len → len ≤ body g → at + len ≤ length f.bytes → AddsPage g f files at len
