-- The table that a folder's files make.
use Rattle.std.specs.Prelude.{ℕ, ◌+◌, List, [], ◌∷◌, replicate}
use Rattle.geometry.specs.declared.geometry.Geometry.{Geometry}
use Rattle.table_model.specs.Table.{File}
use Rattle.folder_core.specs.Files.{FolderFile}

-- a file of a folder as a file of a table, under an id: of type 1, with meta bytes of 0xFF
abbrev pub file_as : Geometry → ℕ → FolderFile → File
file_as g id f = record { id = id; name = f.name; kind = 1; meta = replicate g.meta 0xFF; bytes = f.bytes }

-- files of a folder as those of a table, under an id and those that follow it
unfoldable pub numbered : Geometry → ℕ → List FolderFile → List File
numbered g id [] = []
numbered g id (f ∷ files) = file_as g id f ∷ numbered g (id + 1) files

-- the table of a folder: its files under the ids 1, 2, 3 and so on, in its order
abbrev pub folder_table : Geometry → List FolderFile → List File
folder_table g files = numbered g 1 files
