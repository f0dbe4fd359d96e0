-- Why no image is made of a folder, by the names and sizes of its files alone.
use Rattle.std.specs.Prelude.{ℕ, ◌+◌, List, length, take, find, Bool, nat_le, ◌||◌, Option, Some, None, is_some, if◌then◌else◌, sum_by}
use Rattle.std.specs.List.{range_with_len, list_any}
use Rattle.geometry.specs.declared.geometry.Geometry.{Geometry}
use Rattle.geometry.specs.Numbers.{ceil, entries as entry_pages}
use Rattle.table_model.specs.Table.{same_text}
use Rattle.table_model.specs.Names.{name_refusal}
use Rattle.table_model.specs.Room.{index_pages, data_pages}
use Rattle.folder_core.specs.Files.{Entry, name_at}
use Rattle.folder_plan.specs.declared.refusing.Refusal.{Refusal}
use Rattle.folder_plan.specs.declared.refusing.Refusal.TheVariants.{BadNames, Full}

-- no file can have this name: it is empty, holds a zero byte, or has more than 31 bytes
abbrev pub is_refused : List ℕ → Bool
is_refused name = is_some (name_refusal name)

-- the name, where a file can have it
abbrev pub accepted : List ℕ → Option (List ℕ)
accepted name = if is_refused name then None else Some name

-- one of these entries has that name
unfoldable pub is_name_of : List ℕ → List Entry → Bool
is_name_of name entries = list_any (λ e. same_text e.name name) entries

-- no file can have the name of this entry, or an earlier one has it
abbrev pub is_bad : List Entry → ℕ → Bool
is_bad entries i = is_refused (name_at entries i) || is_name_of (name_at entries i) (take i entries)

-- the first entry from that one on with a bad name
unfoldable pub first_bad_from : List Entry → (i count : ℕ) → Option ℕ
first_bad_from entries i count = find (is_bad entries) (range_with_len i count)

-- the first entry with a bad name
abbrev pub first_bad : List Entry → Option ℕ
first_bad entries = first_bad_from entries 0 (length entries)

-- index pages and data pages of files of these sizes
unfoldable pub index_sum : Geometry → List Entry → ℕ
index_sum g entries = sum_by (λ e. index_pages g e.size) entries

unfoldable pub data_sum : Geometry → List Entry → ℕ
data_sum g entries = sum_by (λ e. data_pages g e.size) entries

-- so many pages and one more of each kind, each kind in blocks of its own, leave two blocks free
abbrev pub leaves_two : Geometry → (index pages : ℕ) → Bool
leaves_two g index pages = nat_le (ceil (index + 1) (entry_pages g) + ceil (pages + 1) (entry_pages g) + 2) g.blocks

-- the volume has room for files of these sizes
abbrev pub fits : Geometry → List Entry → Bool
fits g entries = leaves_two g (index_sum g entries) (data_sum g entries)

-- the refusal by the first bad name, or for want of room
abbrev pub refusal_by : Geometry → List Entry → Option ℕ → Option Refusal
refusal_by g entries (Some at) = Some (BadNames at)
refusal_by g entries None = if fits g entries then None else Some (Full (index_sum g entries) (data_sum g entries))

-- why no image is made, if none is: first a bad name, then want of room
unfoldable pub make_refusal : Geometry → List Entry → Option Refusal
make_refusal g entries = refusal_by g entries (first_bad entries)
