-- What `make` leaves tells its number of meta bytes.
use Rattle.std.specs.Prelude.{ℕ, ◌<◌, List, slice_index}
use Rattle.geometry.specs.declared.geometry.Geometry.{Geometry}
use Rattle.folder_core.specs.Files.{Entry, FolderFile, entries_of, size_at}
use Rattle.image_model.specs.Places.{IsImage}
use Rattle.folder_plan.specs.Tables.{folder_table}
use Rattle.meta_laws.specs.Other.{TellsMeta}
use Rattle.tool_core.specs.Filling.{HoldsFiles}

-- one of these files has bytes
pub record HasSome (entries : List Entry) : Type 0 where
  pub at : ℕ
  pub some : 0 < size_at entries at

-- an image of bytes, in which a volume has the files of a folder one of which has bytes, tells its number of meta bytes
abbrev pub MadeTells : Geometry → (image : List ℕ) → (files : List FolderFile) → Type 0
MadeTells g image files =
    IsImage g image → ((k : ℕ) → slice_index image k < 256) → HoldsFiles g image (folder_table g files) → HasSome (entries_of files) → TellsMeta g image
