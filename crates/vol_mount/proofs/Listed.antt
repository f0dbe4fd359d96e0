-- Files that a surveyed volume tells.
use Rattle.std.proofs.Common.{◌≡◌, ℕ, List}
use Rattle.std.specs.Prelude.{Some, Ok}
use Rattle.geometry.specs.declared.geometry.Geometry.{Geometry}
use Rattle.table_model.specs.Table.{File}
use Rattle.image_model.specs.Live.{live_at}
use Rattle.image_model.specs.Tables.{has_of}
use Rattle.file_read.specs.Whole.{IsFileAt}

-- what an id has is its file by its header page
pub file_of_head : (g : Geometry) (image : List ℕ) (id page : ℕ) (f : File) → has_of g (live_at g image) id ≡ Some (page, Ok f) → IsFileAt g image id page f
unfolding has_of
file_of_head g image id page f has = record { is = has }
