-- The first programs of a put, and what a cut in a step that puts one file may leave.
use Rattle.std.specs.Prelude.{ℕ, ◌+◌, ◌*◌, ◌≤◌, List, take, drop}
use Rattle.geometry.specs.declared.geometry.Geometry.{Geometry}
use Rattle.image_laws.specs.Flash.{Programmed}
use Rattle.table_model.specs.Table.{File}
use Rattle.image_model.specs.Tidy.{free_blocks}
use Rattle.image_model.specs.Places.{entry_at}
use Rattle.image_laws.specs.NewFile.{IsBeforeOrAfter}
use Rattle.image_model.specs.Sound.{IsSound}

-- the first three programs
pub record Placed (g : Geometry) (p : ℕ) (head a0 a1 a2 a3 : List ℕ) : Type 0 where
  pub one : Programmed (entry_at g p) (take 2 head) a0 a1
  pub two : Programmed (p * g.page) (take 5 head) a1 a2
  pub three : Programmed (p * g.page + 5) (drop 5 head) a2 a3

-- an image that a cut may leave
pub record CutOf (g : Geometry) (first : List ℕ) (f : File) (c : List ℕ) : Type 0 where
  pub table : IsBeforeOrAfter g first f c
  pub sound : IsSound g c first
  pub free : free_blocks g first ≤ free_blocks g c + 1
