-- The number of meta bytes of a volume is told by a file with bytes.
use Rattle.std.specs.Prelude.{◌≡◌, ◌≢◌, ℕ, ◌<◌, List, length, replicate, slice_index, Some}
use Rattle.geometry.specs.declared.geometry.Geometry.{Geometry}
use Rattle.table_model.specs.Table.{File, file_of}
use Rattle.image_model.specs.Places.{IsImage}
use Rattle.image_model.specs.Tables.{table_of}
use Rattle.image_model.specs.Tidy.{IsTidy}
use Rattle.trim_laws.specs.Trim.{IsTrim}
use Rattle.meta_tally.specs.Counted.{IsAlike}

-- The table of an image has a file with bytes whose meta bytes are all 0xFF, as those of a new file are.
pub record HasPlainFile (g : Geometry) (image : List ℕ) : Type 0 where
  pub id : ℕ
  pub file : File
  pub there : file_of id (table_of g image) ≡ Some file
  pub some : 0 < length file.bytes
  pub plain : file.meta ≡ replicate g.meta 0xFF

-- An image of bytes that is tidy, has such a file, and names no page behind the last one of a file.
pub record TellsMeta (g : Geometry) (image : List ℕ) : Type 0 where
  pub holds : IsImage g image
  pub tidy : IsTidy g image
  pub trim : IsTrim g image
  pub small : (k : ℕ) → slice_index image k < 256
  pub plain : HasPlainFile g image

-- By any other number of meta bytes fewer files are whole.
abbrev pub OtherReadsFewer : Geometry → Type 0
OtherReadsFewer g = (h : Geometry) (image : List ℕ) → IsAlike g h → TellsMeta g image → h.meta ≢ g.meta → length (table_of h image) < length (table_of g image)
