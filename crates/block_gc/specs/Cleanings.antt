-- What cleaning a block asks of an image and leaves.
use Rattle.std.specs.Prelude.{◌≡◌, ◌≢◌, ℕ, ◌<◌, List, true, false}
use Rattle.geometry.specs.declared.geometry.Geometry.{Geometry}
use Rattle.image_model.specs.Places.{erase_count, next_count}
use Rattle.image_model.specs.Tidy.{IsTidy, is_free_block}
use Rattle.image_model.specs.Collect.{is_fitting}
use Rattle.image_model.specs.Sound.{Keeps}
use Rattle.renew_laws.specs.Tails.{KeepsTails}
use Rattle.flash_view.specs.Steps.{Step}
use Rattle.room_laws.specs.CleanedImages.{HasCleaned}
use Rattle.room_laws.specs.Recovery.{Recovers, MayCut}

-- The image is tidy, and the block is in use and fits.
pub record CanCleanBlock (g : Geometry) (image : List ℕ) (block : ℕ) : Type 0 where
  pub tidy : IsTidy g image
  pub used : is_free_block g image block ≡ false
  pub fits : is_fitting g image block ≡ true

-- A cut keeps the image, and it recovers where a cut may come in the cleaning of the block.
pub record CleanCut (g : Geometry) (block : ℕ) (was image : List ℕ) : Type 0 where
  pub keeps : Keeps g was image
  pub mends : MayCut g was block → Recovers g image

-- The block was cleaned and has the next erase count, and all other blocks have the erase counts that they had. Tails that were ready are so still.
pub record CleanedBlock (g : Geometry) (block : ℕ) (was now : List ℕ) : Type 0 where
  pub cleaned : HasCleaned g was block now
  pub count : erase_count g now block ≡ next_count g was
  pub others : (block' : ℕ) → block' < g.blocks → block' ≢ block → erase_count g now block' ≡ erase_count g was block'
  pub tails : KeepsTails g was now

abbrev pub cleaning_block : ℕ → Step (Unit {0})
cleaning_block block =
    record { needs = λ g was. CanCleanBlock g was block; cut = λ g was image. CleanCut g block was image; done = λ g was now ok. CleanedBlock g block was now }
