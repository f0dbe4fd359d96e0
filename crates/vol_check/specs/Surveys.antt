-- What a check has to part, and how it can go about it.
use Rattle.std.specs.Prelude.{◌≡◌, ℕ, ◌<◌, List, false}
use Rattle.geometry.specs.declared.geometry.Geometry.{Geometry}
use Rattle.image_model.specs.Shared.{shared_blocks, shared_index, open_entries, blocks_to_use, fits_over, FitsWith}
use Rattle.vol_check.specs.declared.parting.Survey.{Survey}
use Rattle.vol_check.specs.declared.parting.Parting.{Parting}
use Rattle.vol_check.specs.declared.parting.Parting.TheVariants.{None, Fits, Over}

-- What a check finds has the numbers of the image.
pub record IsSurvey (g : Geometry) (image : List ℕ) (found : Survey) : Type 0 where
  pub shared : found.shared ≡ shared_blocks g image
  pub index_pages : found.index_pages ≡ shared_index g image
  pub index_free : found.index_free ≡ open_entries g image
  pub free_blocks : found.free_blocks ≡ blocks_to_use g image

-- no block is shared; or some are and it fits over; or so many are and it doesn't
abbrev pub TellsParting : Geometry → List ℕ → Parting → Type 0
TellsParting g image None = shared_blocks g image ≡ 0
TellsParting g image Fits = (0 < shared_blocks g image) × FitsWith g image 0
TellsParting g image (Over blocks) = (blocks ≡ shared_blocks g image) × (fits_over g image ≡ false)
