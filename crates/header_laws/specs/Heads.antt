-- What a header page tells of its file.
use Rattle.std.specs.Prelude.{◌≡◌, ℕ, ◌+◌, List, length, Some, None, Ok, slice_index, slice_range}
use Rattle.std.specs.List.{All}
use Rattle.geometry.specs.declared.geometry.Geometry.{Geometry}
use Rattle.table_model.specs.Table.{File, file_of, file_named, file_above}
use Rattle.table_model.specs.Names.{name_refusal}
use Rattle.image_model.specs.Places.{IsImage}
use Rattle.image_model.specs.Headers.{size_of, name_of}
use Rattle.image_model.specs.Live.{live_at, own}
use Rattle.image_model.specs.Files.{index_page, judged}
use Rattle.image_model.specs.Tables.{table_of}
use Rattle.image_model.specs.Tidy.{IsTidy}
use Rattle.image_laws.specs.Programs.{HasOneHead}

-- A header page tells the file of an id: its name, type, meta bytes and size. It leads to the file.
pub record Tells (g : Geometry) (a : List ℕ) (id : ℕ) (page : List ℕ) (f : File) : Type 0 where
  pub file : file_of id (table_of g a) ≡ Some f
  pub id_is : f.id ≡ id
  pub name : name_of page ≡ Some f.name
  pub kind : f.kind ≡ slice_index page 12
  pub meta : f.meta ≡ slice_range page 45 (45 + g.meta)
  pub size : length f.bytes ≡ size_of page
  pub meta_length : length f.meta ≡ g.meta
  pub fine_name : name_refusal f.name ≡ None
  pub whole : judged g (own (live_at g a) id) id page ≡ Ok f

-- In a tidy image the header page of an id tells the file of that id in the table.
abbrev pub HeadTells : Geometry → Type 0
HeadTells g = (a : List ℕ) → IsImage g a → IsTidy g a → (id p : ℕ) (page : List ℕ) →
    index_page g (own (live_at g a) id) 0 ≡ Some p → live_at g a p ≡ Some page → (f : File) × Tells g a id page f

-- a file and its header page
pub record HasHead (g : Geometry) (a : List ℕ) (id : ℕ) (f : File) : Type 0 where
  pub p : ℕ
  pub page : List ℕ
  pub at : index_page g (own (live_at g a) id) 0 ≡ Some p
  pub live : live_at g a p ≡ Some page
  pub tells : Tells g a id page f

-- Every file of a tidy image's table has a header page.
abbrev pub FilesHaveHeads : Geometry → Type 0
FilesHaveHeads g = (a : List ℕ) → IsImage g a → IsTidy g a → (id : ℕ) (f : File) → file_of id (table_of g a) ≡ Some f → HasHead g a id f

-- A file that is found by its name, or as the next one, is the file of its id.
abbrev pub FoundById : Geometry → Type 0
FoundById g = (a : List ℕ) (f : File) →
    ((name : List ℕ) → file_named name (table_of g a) ≡ Some f → file_of f.id (table_of g a) ≡ Some f)
    × ((after : ℕ) → file_above after (table_of g a) ≡ Some f → file_of f.id (table_of g a) ≡ Some f)

-- Each file of the table is the file of its id, so no two have one id.
abbrev pub EachById : Geometry → Type 0
EachById g = (a : List ℕ) → All (λ f. file_of f.id (table_of g a) ≡ Some f) (table_of g a)

-- Each file of the table is the file of its name, so no two have one name.
abbrev pub EachByName : Geometry → Type 0
EachByName g = (a : List ℕ) → All (λ f. file_named f.name (table_of g a) ≡ Some f) (table_of g a)

-- In a tidy image the header page of an id is the only one that it has.
abbrev pub OneHead : Geometry → Type 0
OneHead g = (a : List ℕ) → IsImage g a → IsTidy g a → (id p : ℕ) (page : List ℕ) →
    index_page g (own (live_at g a) id) 0 ≡ Some p → live_at g a p ≡ Some page → HasOneHead g a id p page
