-- Where a page may be put, and the table while one file is put.
use Rattle.std.specs.Prelude.{◌≡◌, ℕ, ◌+◌, ◌*◌, ◌<◌, ◌⊎◌, List, true, slice_index}
use Rattle.geometry.specs.declared.geometry.Geometry.{Geometry}
use Rattle.image_model.specs.Places.{has_magic, block_of, is_entry_page, entry_at}
use Rattle.table_model.specs.Table.{File, put_file}
use Rattle.image_model.specs.Tables.{table_of}

-- a free page of a block with its magic
pub record IsFreePage (g : Geometry) (image : List ℕ) (p : ℕ) : Type 0 where
  pub entry_page : is_entry_page g p ≡ true
  pub magic : has_magic g image (block_of g p) ≡ true
  pub entry : (i : ℕ) → i < 2 → slice_index image (entry_at g p + i) ≡ 255
  pub erased : (i : ℕ) → i < g.page → slice_index image (p * g.page + i) ≡ 255

-- the table of the first image, or that with file f
abbrev pub IsBeforeOrAfter : Geometry → List ℕ → File → List ℕ → Type 0
IsBeforeOrAfter g first f image = (table_of g image ≡ table_of g first) ⊎ (table_of g image ≡ put_file f (table_of g first))
