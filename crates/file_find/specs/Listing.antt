-- The files of the table and the damaged files, one after the other in order of ids.
use Rattle.std.specs.Prelude.{◌≡◌, ℕ, List, nat_lt, Option, Some, None, Ok, find}
use Rattle.geometry.specs.declared.geometry.Geometry.{Geometry}
use Rattle.table_model.specs.Table.{File, file_of, file_above}
use Rattle.image_model.specs.declared.damage.Damage.{Damage}
use Rattle.image_model.specs.Live.{live_at}
use Rattle.image_model.specs.Tables.{has_of, table_of, damaged_of}

-- the table's file of the least id above `after` is this id's, which has it with this header page
pub record IsNextFile (g : Geometry) (image : List ℕ) (after id page : ℕ) : Type 0 where
  pub file : File
  pub above : file_above after (table_of g image) ≡ Some file
  pub id_is : file.id ≡ id
  pub has : has_of g (live_at g image) id ≡ Some (page, Ok file)

-- the next file of the table, by its id and its header page; or none where the table has no id above `after`
abbrev pub NextFile : Geometry → List ℕ → ℕ → Option (ℕ × ℕ) → Type 0
NextFile g image after None = file_above after (table_of g image) ≡ None
NextFile g image after (Some (id, page)) = IsNextFile g image after id page

-- the table's file of an id, which the id has with this header page
pub record IsTheFile (g : Geometry) (image : List ℕ) (id page : ℕ) : Type 0 where
  pub file : File
  pub listed : file_of id (table_of g image) ≡ Some file
  pub has : has_of g (live_at g image) id ≡ Some (page, Ok file)

-- the header page of the table's file of an id; or none where the table has none
abbrev pub TheFile : Geometry → List ℕ → ℕ → Option ℕ → Type 0
TheFile g image id None = file_of id (table_of g image) ≡ None
TheFile g image id (Some page) = IsTheFile g image id page

-- the damaged file of the least id above `after`
unfoldable pub damaged_above : Geometry → List ℕ → ℕ → Option (ℕ × Damage)
damaged_above g image after = find (λ d. nat_lt after d.0) (damaged_of g image)
