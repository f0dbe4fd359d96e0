-- A page is put, and then another one is killed.
use Rattle.std.specs.Prelude.{ℕ, ◌⊎◌, List}
use Rattle.geometry.specs.declared.geometry.Geometry.{Geometry}
use Rattle.image_laws.specs.LiveSteps.{PutLeaves, PutDone, KillLeaves, KillDone}

-- What a cut leaves: page p is put in part, or it is there and page o is killed in part.
abbrev pub ReplaceCut : Geometry → (p o : ℕ) (page a c : List ℕ) → Type 0
ReplaceCut g p o page a c = PutLeaves g p page a c ⊎ ((b : List ℕ) × PutDone g p page a b × KillLeaves g o b c)

-- Both were done.
pub record Replaced (g : Geometry) (p o : ℕ) (page a b : List ℕ) : Type 0 where
  pub middle : List ℕ
  pub put : PutDone g p page a middle
  pub kill : KillDone g o middle b
