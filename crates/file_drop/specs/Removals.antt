-- What a remove asks of an image, and what it leaves.
use Rattle.std.specs.Prelude.{◌≡◌, ℕ, ◌+◌, ◌*◌, ◌<◌, ◌≤◌, ◌⊎◌, List, true, Some, slice_index}
use Rattle.geometry.specs.declared.geometry.Geometry.{Geometry}
use Rattle.table_model.specs.Table.{has_id, drop_file}
use Rattle.image_model.specs.Live.{live_at, own}
use Rattle.image_model.specs.Files.{index_page}
use Rattle.image_model.specs.Tables.{table_of}
use Rattle.image_model.specs.Tidy.{IsTidy, free_blocks}
use Rattle.image_model.specs.Sound.{IsSound}
use Rattle.trim_laws.specs.Wear.{SameWear}
use Rattle.flash_view.specs.Steps.{Step}
use Rattle.file_drop.specs.Drops.{HasLeft, none_kept}
use Rattle.file_drop.specs.Programs.{pages_of}

-- The image is tidy, and its table has a file of that id.
pub record CanRemove (g : Geometry) (image : List ℕ) (id : ℕ) : Type 0 where
  pub tidy : IsTidy g image
  pub there : has_id id (table_of g image) ≡ true

-- A cut in a remove leaves an image that is sound, with no fewer free blocks and no block made fresh, and the table is the one before or the one
-- without the file.
pub record RemoveCut (g : Geometry) (was : List ℕ) (id : ℕ) (image : List ℕ) : Type 0 where
  pub sound : IsSound g image was
  pub table : (table_of g image ≡ table_of g was) ⊎ (table_of g image ≡ drop_file id (table_of g was))
  pub free : free_blocks g was ≤ free_blocks g image
  pub wear : SameWear g was image

-- A remove that is done leaves an image that is tidy, with no fewer free blocks, and the file isn't in its table.
pub record IsRemoved (g : Geometry) (was : List ℕ) (id : ℕ) (now : List ℕ) : Type 0 where
  pub tidy : IsTidy g now
  pub table : table_of g now ≡ drop_file id (table_of g was)
  pub free : free_blocks g was ≤ free_blocks g now

-- Page p is the header page of the file that is to be removed, and its flags are below 256.
pub record CanDrop (g : Geometry) (image : List ℕ) (id p : ℕ) : Type 0 where
  pub can : CanRemove g image id
  pub first : index_page g (own (live_at g image) id) 0 ≡ Some p
  pub byte : slice_index image (p * g.page + 4) < 256

-- Once the header page is killed the file isn't in the table, and the image is tidy but for its other pages, one fewer than before. No block is
-- made fresh.
pub record HeaderDropped (g : Geometry) (was : List ℕ) (id : ℕ) (now : List ℕ) : Type 0 where
  pub sound : IsSound g now was
  pub table : table_of g now ≡ drop_file id (table_of g was)
  pub free : free_blocks g was ≤ free_blocks g now
  pub wear : SameWear g was now
  pub left : HasLeft g id none_kept now
  pub fewer : pages_of g now id + 1 ≤ pages_of g was id

-- ---- the steps of a remove: that of the header page p, with those of all pages, and the whole remove

abbrev pub dropping_header : ℕ → ℕ → Step (Unit {0})
dropping_header id p =
    record { needs = λ g was. CanDrop g was id p; cut = λ g was image. RemoveCut g was id image; done = λ g was now ok. HeaderDropped g was id now }

abbrev pub removing_by : ℕ → ℕ → Step (Unit {0})
removing_by id p = record { needs = λ g was. CanDrop g was id p; cut = λ g was image. RemoveCut g was id image; done = λ g was now ok. IsRemoved g was id now }

abbrev pub removing : ℕ → Step (Unit {0})
removing id = record { needs = λ g was. CanRemove g was id; cut = λ g was image. RemoveCut g was id image; done = λ g was now ok. IsRemoved g was id now }
