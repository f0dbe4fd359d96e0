-- Why a copy isn't done, on the flat tables.
use Rattle.std.specs.Prelude.{List, Bool, not, Option, Some, if◌then◌else◌, find, position}
use Rattle.std.specs.Option.{option_map, option_or}
use Rattle.geometry.specs.declared.geometry.Geometry.{Geometry}
use Rattle.table_model.specs.Table.{File, same_text}
use Rattle.table_model.specs.Room.{has_room, index_count, data_count}
use Rattle.copy_model.specs.Copying.{working, without_name, copy_steps}
use Rattle.copy_model.specs.declared.err.CopyErr.{CopyErr}
use Rattle.copy_model.specs.declared.err.CopyErr.TheVariants.{BadName, Full}

-- a table for which there is no room
abbrev pub full_as : Geometry → List File → CopyErr
full_as g files = Full (index_count g files) (data_count g files)

-- the first of some tables for which there is no room
abbrev pub first_full : Geometry → List (List File) → Option (List File)
first_full g tables = find (λ t. not (has_room g t)) tables

-- the first record that has the working name
abbrev pub bad_place : List File → Option CopyErr
bad_place source = option_map (λ at. BadName at) (position (λ f. same_text f.name working) source)

-- The table has no room as it is; else a record has the working name; else the first step for which there is no room.
unfoldable pub copy_stop : Geometry → (alike : Bool) → (source first : List File) → Option CopyErr
copy_stop g alike source first =
    if not (has_room g first) then Some (full_as g first)
    else option_or (bad_place source) (option_map (full_as g) (first_full g (copy_steps g alike source (without_name working first))))
