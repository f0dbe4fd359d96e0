-- Images that cleanings give back their reserve.
use Rattle.std.specs.Prelude.{◌≡◌, ℕ, List, None}
use Rattle.geometry.specs.declared.geometry.Geometry.{Geometry}
use Rattle.geometry.specs.Numbers.{entries}
use Rattle.image_model.specs.Places.{IsImage}
use Rattle.image_model.specs.Tidy.{IsTidy, HasReserve}
use Rattle.image_model.specs.Collect.{chosen_block}
use Rattle.room_laws.specs.Mending.{Mending}
use Rattle.room_laws.specs.Counting.{counts_of}
use Rattle.room_laws.specs.Stopping.{CanClean}

-- The image is tidy, and by its counts cleanings give it back two free blocks.
pub record CanMend (g : Geometry) (image : List ℕ) : Type 0 where
  pub image_is : IsImage g image
  pub tidy : IsTidy g image
  pub mending : Mending (entries g) (counts_of g image)

-- An image that can be cleaned mends.
abbrev pub CleanMends : Geometry → Type 0
CleanMends g = (image : List ℕ) → CanClean g image → CanMend g image

-- Where no block is chosen in an image that mends, two blocks are free.
abbrev pub MendedHasReserve : Geometry → Type 0
MendedHasReserve g = (image : List ℕ) → CanMend g image → chosen_block g image ≡ None → HasReserve g image
