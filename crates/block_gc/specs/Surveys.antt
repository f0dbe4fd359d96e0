-- What a survey of a volume found.
use Rattle.std.specs.Prelude.{◌≡◌, ℕ, List}
use Rattle.geometry.specs.declared.geometry.Geometry.{Geometry}
use Rattle.image_model.specs.Tidy.{free_blocks}
use Rattle.block_gc.specs.declared.next.Survey.{Survey}
use Rattle.block_gc.specs.Best.{AreBests}

-- the free blocks and the bests are those of the image
pub record IsSurvey (g : Geometry) (image : List ℕ) (found : Survey) : Type 0 where
  pub free : found.free ≡ free_blocks g image
  pub bests : AreBests g image found.bests
