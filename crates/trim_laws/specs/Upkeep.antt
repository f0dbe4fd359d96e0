-- What each step keeps up.
use Rattle.std.specs.Prelude.{ℕ, List}
use Rattle.geometry.specs.declared.geometry.Geometry.{Geometry}
use Rattle.trim_laws.specs.Trim.{Trims}
use Rattle.trim_laws.specs.Wear.{Wears}

-- At a cut and done: where no header page named a page behind the last one of its file, none does; and no erase count changes but by making
-- blocks fresh, each with the next count.
pub record Upkeep (g : Geometry) (was image : List ℕ) : Type 0 where
  pub trims : Trims g was image
  pub wears : Wears g was image
