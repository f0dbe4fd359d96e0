-- What a copy of the files of one volume onto another makes of the flat tables.
use Rattle.std.specs.Prelude.{ℕ, ◌+◌, ◌-◌, ◌%◌, List, [], ◌∷◌, ◌++◌, length, map, take, filter, Option, Some, None, Bool, false, not, ◌==◌, ◌&&◌, ◌||◌}
use Rattle.std.specs.Prelude.{if◌then◌else◌}
use Rattle.std.specs.List.{range_with_len}
use Rattle.geometry.specs.declared.geometry.Geometry.{Geometry}
use Rattle.geometry.specs.Numbers.{body}
use Rattle.table_model.specs.Table.{File, same_text, file_named, least_id, put_file, drop_file}
use Rattle.table_model.specs.Files.{new_file}

-- the name under which a file stands until it is whole: the one byte 1
abbrev pub working : List ℕ
working = 1 ∷ []

-- A file is a copy of a record where it has type 1, the record's bytes and, on volumes with as many meta bytes, its meta bytes.
abbrev pub is_copy : (alike : Bool) (f x : File) → Bool
is_copy alike f x = (x.kind == 1) && same_text x.bytes f.bytes && (not alike || same_text x.meta f.meta)

-- so is the file of a name, where there is one
abbrev pub is_copied : (alike : Bool) → File → Option File → Bool
is_copied alike f None = false
is_copied alike f (Some x) = is_copy alike f x

-- a record is kept as it stands on the table: there its name has a copy
abbrev pub keeps : (alike : Bool) → File → List File → Bool
keeps alike f files = is_copied alike f (file_named f.name files)

-- the table without the file that was found, if there is one
abbrev pub without_found : Option File → List File → List File
without_found None files = files
without_found (Some x) files = drop_file x.id files

-- the table without the file of a name
unfoldable pub without_name : List ℕ → List File → List File
without_name name files = without_found (file_named name files) files

-- the file of the working name with some bytes: of type 1, under the least unused id, with meta bytes of 0xFF
abbrev pub front_of : Geometry → List File → List ℕ → File
front_of g files bytes = record (new_file g (least_id files) working) { bytes = bytes }

-- the table with a record's bytes up to a place under the working name
abbrev pub begun : Geometry → File → List File → ℕ → List File
begun g f files e = put_file (front_of g files (take e f.bytes)) files

-- all of them, and the record's meta bytes where both volumes have as many
abbrev pub marked : Geometry → (alike : Bool) → File → List File → File
marked g alike f files = let w = front_of g files f.bytes in if alike then record w { meta = f.meta } else w

-- then the file that had the record's name is gone
abbrev pub cleared : Geometry → (alike : Bool) → File → List File → List File
cleared g alike f files = without_name f.name (put_file (marked g alike f files) files)

-- and the working file has it
unfoldable pub placed : Geometry → (alike : Bool) → File → List File → List File
placed g alike f files = put_file (record (marked g alike f files) { name = f.name }) (cleared g alike f files)

-- where the working file ends from a place on, step by step: where a data page ends, and at its own end
abbrev pub ends_from : (page size at : ℕ) → List ℕ
ends_from page size at = filter (λ e. (e % page == 0) || (e == size)) (range_with_len at (size + 1 - at))

-- and from its first byte on, where it has none
abbrev pub copy_ends : (page size : ℕ) → List ℕ
copy_ends page size = ends_from page size 0

-- The tables that copying a record makes, one after the other, of one without a file of the working name: its bytes, page by page, under the
-- working name; its meta bytes; the file that had its name is gone; the working file has that name.
unfoldable pub record_steps : Geometry → (alike : Bool) → File → List File → List (List File)
record_steps g alike f files =
    map (begun g f files) (copy_ends (body g) (length f.bytes))
    ++ (put_file (marked g alike f files) files ∷ cleared g alike f files ∷ placed g alike f files ∷ [])

-- those that copying these records makes, in order
unfoldable pub copy_steps : Geometry → (alike : Bool) → List File → List File → List (List File)
copy_steps g alike [] files = []
copy_steps g alike (f ∷ fs) files =
    if keeps alike f files then copy_steps g alike fs files
    else record_steps g alike f files ++ copy_steps g alike fs (placed g alike f files)

-- the table after them
unfoldable pub copied : Geometry → (alike : Bool) → List File → List File → List File
copied g alike [] files = files
copied g alike (f ∷ fs) files = copied g alike fs (if keeps alike f files then files else placed g alike f files)

-- how many records are kept
unfoldable pub kept_count : (alike : Bool) → List File → List File → ℕ
kept_count alike source files = length (filter (λ f. keeps alike f files) source)
