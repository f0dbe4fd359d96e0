-- Whole files of an image, and their bytes.
use Rattle.std.specs.Prelude.{◌≡◌, ℕ, ◌+◌, ◌≤◌, List, length, take, drop, Some, Ok}
use Rattle.geometry.specs.declared.geometry.Geometry.{Geometry}
use Rattle.table_model.specs.Table.{File}
use Rattle.table_model.specs.Files.{bytes_at}
use Rattle.image_model.specs.Live.{live_at, own}
use Rattle.image_model.specs.Files.{found}

-- The id is whole, and this is its file: whether another id of its name counts in its place doesn't matter.
pub record IsFileOf (g : Geometry) (image : List ℕ) (id : ℕ) (f : File) : Type 0 where
  pub page : ℕ
  pub is : found g (own (live_at g image) id) id ≡ Some (page, Ok f)

-- the same with that header page
pub record IsFileAt (g : Geometry) (image : List ℕ) (id page : ℕ) (f : File) : Type 0 where
  pub is : found g (own (live_at g image) id) id ≡ Some (page, Ok f)

-- The first n bytes are those of the file from a place on, as many as there are and fit. The others stay.
pub record IsRead (f : File) (at : ℕ) (old new : List ℕ) (n : ℕ) : Type 0 where
  pub count : n ≡ length (bytes_at (length old) at f)
  pub bytes : take n new ≡ bytes_at (length old) at f
  pub rest : drop n new ≡ drop n old

-- bytes of a whole file that lie inside it are read into a place, and so many of them stand there
pub record Reading (g : Geometry) (image : List ℕ) (id : ℕ) (f : File) (at done : ℕ) (into : List ℕ) : Type 0 where
  pub file : IsFileOf g image id f
  pub inside : at + length into ≤ length f.bytes
  pub read : take done into ≡ bytes_at done at f
