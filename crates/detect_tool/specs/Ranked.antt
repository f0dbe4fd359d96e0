-- Candidates in order, best first.
use Rattle.std.specs.Prelude.{ℕ, ◌≡◌, List, All, AllPairs, Any, IsPermutation}
use Rattle.geometry.specs.declared.geometry.Geometry.{Geometry}
use Rattle.volume_detect.specs.Places.{IsFoundAt}
use Rattle.volume_rank.specs.declared.found.Found.{Found}
use Rattle.volume_rank.specs.Finds.{IsFound}
use Rattle.volume_rank.specs.Order.{IsBefore}

-- Each candidate of a file stands in the list once, with what it reads, best first: before others come those with more whole files,
-- then those of which fewer blocks lack their magic (one may), then those with fewer damaged ids, then those of lower places.
pub record AreRanked (file : List ℕ) (list : List Found) : Type 0 where
  pub each : All (IsFound file) list
  pub order : AllPairs IsBefore list
  pub all : (p : ℕ) (g : Geometry) → IsFoundAt file p g → Any (λ f. f.place ≡ p) list

-- One list has what another has, best first.
pub record IsRanking (found list : List Found) : Type 0 where
  pub same : IsPermutation found list
  pub order : AllPairs IsBefore list
