-- The flat table while the files of a folder are put onto a volume.
use Rattle.std.specs.Prelude.{ℕ, ◌≡◌, ◌+◌, ◌<◌, true, List, [], ◌∷◌, ◌++◌, length, None}
use Rattle.geometry.specs.declared.geometry.Geometry.{Geometry}
use Rattle.table_model.specs.Table.{Open, State, file_named}
use Rattle.table_model.specs.Names.{name_refusal}
use Rattle.table_model.specs.Room.{has_room}
use Rattle.table_model.specs.Files.{with_open}
use Rattle.call_model.specs.Closed.{with_files}
use Rattle.folder_core.specs.Files.{FolderFile}
use Rattle.folder_plan.specs.Tables.{folder_table}

-- a descriptor at a place of a file that was opened to be made (4) and written (16)
abbrev pub writer : (id at : ℕ) → Open
writer id at = record { id = id; flags = 20; offset = at }

-- the files of a folder were put onto a volume, and all descriptors are closed
abbrev pub put_state : Geometry → (slots : ℕ) → List FolderFile → State
put_state g slots files = with_files slots (folder_table g files)

-- a file more was begun, and the first descriptor is open at its end
abbrev pub begun_state : Geometry → (slots : ℕ) → List FolderFile → FolderFile → State
begun_state g slots files f = with_open 1 (writer (length files + 1) (length f.bytes)) (put_state g slots (files ++ f ∷ []))

-- A descriptor can be opened on a new file of that name behind these files: a file can have it, none of these has, and there is room.
pub record IsNew (g : Geometry) (slots : ℕ) (files : List FolderFile) (name : List ℕ) : Type 0 where
  pub some : 0 < slots
  pub fine : name_refusal name ≡ None
  pub missing : file_named name (folder_table g files) ≡ None
  pub room : has_room g (folder_table g (files ++ record { name = name; bytes = [] } ∷ [])) ≡ true
