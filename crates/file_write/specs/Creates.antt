-- What a create asks of an image, and what it leaves.
use Rattle.std.specs.Prelude.{◌≡◌, ℕ, ◌<◌, ◌⊎◌, List, true, false}
use Rattle.geometry.specs.declared.geometry.Geometry.{Geometry}
use Rattle.table_model.specs.Table.{has_name, put_file}
use Rattle.table_model.specs.Files.{new_file}
use Rattle.image_model.specs.Places.{block_of}
use Rattle.image_model.specs.Tables.{table_of}
use Rattle.image_model.specs.Tidy.{IsTidy, HasReserve, is_free_block, free_blocks}
use Rattle.image_model.specs.Sound.{IsSound}
use Rattle.image_model.specs.Kinds.{is_data_block}
use Rattle.image_model.specs.Collect.{are_had}
use Rattle.flash_view.specs.Found.{has_header}
use Rattle.image_laws.specs.NewFile.{IsFreePage, IsBeforeOrAfter}
use Rattle.trim_laws.specs.Wear.{SameWear}
use Rattle.flash_view.specs.Steps.{Step}

-- The image is tidy with its reserve, the id and the name are unused, and an index page is to be had.
pub record CanCreate (g : Geometry) (image : List ℕ) (id : ℕ) (name : List ℕ) : Type 0 where
  pub tidy : IsTidy g image
  pub reserve : HasReserve g image
  pub new_id : has_header g image id ≡ false
  pub new_name : has_name name (table_of g image) ≡ false
  pub had : are_had g image 1 0 ≡ true

-- A cut in a create leaves an image that is sound with its reserve, where no block is made fresh, and the table is the one before or the one with
-- the new file.
pub record CreateCut (g : Geometry) (was : List ℕ) (id : ℕ) (name image : List ℕ) : Type 0 where
  pub sound : IsSound g image was
  pub table : IsBeforeOrAfter g was (new_file g id name) image
  pub reserve : HasReserve g image
  pub wear : SameWear g was image

-- A create that is done leaves an image that is tidy with its reserve, and the new file is in its table.
pub record Created (g : Geometry) (was : List ℕ) (id : ℕ) (name now : List ℕ) : Type 0 where
  pub tidy : IsTidy g now
  pub reserve : HasReserve g now
  pub table : table_of g now ≡ put_file (new_file g id name) (table_of g was)

-- Page p is free for the header page: its block holds no live data page, and is in use or one of more than two free ones.
pub record CanPut (g : Geometry) (image : List ℕ) (p id : ℕ) (name : List ℕ) : Type 0 where
  pub can : CanCreate g image id name
  pub free : IsFreePage g image p
  pub kind : is_data_block g image (block_of g p) ≡ false
  pub keeps : (is_free_block g image (block_of g p) ≡ false) ⊎ (2 < free_blocks g image)

-- ---- the steps of a create: the header page at page p, and the whole create

abbrev pub creating_at : ℕ → ℕ → List ℕ → Step (Unit {0})
creating_at p id name =
    record { needs = λ g was. CanPut g was p id name; cut = λ g was image. CreateCut g was id name image; done = λ g was now ok. Created g was id name now }

abbrev pub creating : ℕ → List ℕ → Step (Unit {0})
creating id name =
    record { needs = λ g was. CanCreate g was id name; cut = λ g was image. CreateCut g was id name image; done = λ g was now ok. Created g was id name now }
