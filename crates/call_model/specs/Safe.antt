-- Images that may follow another one on a volume.
use Rattle.std.specs.Prelude.{◌≡◌, ℕ, ◌+◌, ◌⊎◌, List}
use Rattle.geometry.specs.declared.geometry.Geometry.{Geometry}
use Rattle.image_model.specs.Tidy.{HasReserve}
use Rattle.image_model.specs.Sound.{HasMagics, IsSound}
use Rattle.image_model.specs.Shared.{shared_blocks, FitsWith}
use Rattle.room_laws.specs.Recovery.{Recovers}

-- A check of the image that isn't cut gives it two free blocks: it recovers, and where blocks are shared it has its reserve.
pub record ComesBack (g : Geometry) (image : List ℕ) : Type 0 where
  pub recovers : Recovers g image
  pub parts : (shared_blocks g image ≡ 0) ⊎ HasReserve g image

-- A cut may leave an image of another: where at most one block of that lacks its magic it is sound with respect to it, where that has
-- its reserve an uncut check of it gives that back, and of the entries to spare for the index pages of shared blocks at most one is lost.
pub record IsSafe (g : Geometry) (was image : List ℕ) : Type 0 where
  pub sound : HasMagics g was → IsSound g image was
  pub mends : HasReserve g was → ComesBack g image
  pub fits : (spare : ℕ) → FitsWith g was (spare + 1) → FitsWith g image spare

-- the same of an image that stands uncut: a reserve that was there is there
pub record HoldsImage (g : Geometry) (was now : List ℕ) : Type 0 where
  pub sound : HasMagics g was → IsSound g now was
  pub reserve : HasReserve g was → HasReserve g now
