-- The one block that lacks its magic, in a walk over blocks.
use Rattle.std.specs.Prelude.{◌≡◌, ℕ, ◌<◌, List, false, Option, Some}
use Rattle.geometry.specs.declared.geometry.Geometry.{Geometry}
use Rattle.image_model.specs.Places.{has_magic}

-- of the blocks below n this one lacks its magic, and no other
pub record OneLacks (g : Geometry) (image : List ℕ) (n : ℕ) (spoiled : Option ℕ) : Type 0 where
  pub other : (block : ℕ) → block < n → has_magic g image block ≡ false → spoiled ≡ Some block
  pub here : (block : ℕ) → spoiled ≡ Some block → (block < n) × (has_magic g image block ≡ false)
