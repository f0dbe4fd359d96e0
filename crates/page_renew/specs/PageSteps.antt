-- What a page step leaves, at a cut and done.
use Rattle.std.specs.Prelude.{◌≡◌, ℕ, ◌⊎◌, List}
use Rattle.geometry.specs.declared.geometry.Geometry.{Geometry}
use Rattle.table_model.specs.Table.{File}
use Rattle.image_model.specs.Tables.{table_of}
use Rattle.image_model.specs.Sound.{IsSound}
use Rattle.image_model.specs.Tidy.{IsTidy, HasReserve}
use Rattle.trim_laws.specs.Wear.{SameWear}

-- What a page step may leave at a cut: it is sound, with the table before it or the one after it, a reserve that was there is there,
-- and no block is made fresh.
pub record StepCut (g : Geometry) (after : List File) (was image : List ℕ) : Type 0 where
  pub sound : IsSound g image was
  pub table : (table_of g image ≡ table_of g was) ⊎ (table_of g image ≡ after)
  pub reserve : HasReserve g was → HasReserve g image
  pub wear : SameWear g was image

-- What a page step leaves, done: a tidy image with the table after it, and two free blocks where there were two.
pub record StepDone (g : Geometry) (after : List File) (was now : List ℕ) : Type 0 where
  pub tidy : IsTidy g now
  pub table : table_of g now ≡ after
  pub reserve : HasReserve g was → HasReserve g now
