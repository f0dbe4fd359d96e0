-- What the list of all candidates has of a tidy volume with which a file begins.
use Rattle.std.specs.Prelude.{ℕ, ◌≡◌, List, Any}
use Rattle.geometry.specs.declared.geometry.Geometry.{Geometry}
use Rattle.image_model.specs.Tidy.{IsTidy}
use Rattle.meta_laws.specs.Other.{TellsMeta}
use Rattle.volume_detect.specs.Places.{IsFoundAt}
use Rattle.volume_rank.specs.declared.found.Found.{Found}
use Rattle.detect_tool.specs.Fronts.{BeginsWith, IsFoundFor, TellsFiles, TellsOwnMeta}
use Rattle.detect_tool.specs.Ranked.{AreRanked}

-- Two candidates at one place have the same number of blocks.
abbrev pub OnePlaceOneLength : List ℕ → (place : ℕ) → Geometry → Geometry → Type 0
OnePlaceOneLength file place g h = IsFoundAt file place g → IsFoundAt file place h → h.blocks ≡ g.blocks

-- The list of all candidates has the volume with which the file begins.
abbrev pub IsListed : List ℕ → Geometry → List Found → Type 0
IsListed file g list = IsTidy g file → BeginsWith file g → AreRanked file list → Any (IsFoundFor file g) list

-- It is found with its numbers, and its line tells at least its files, no damaged id, and its own number of meta bytes.
pub record IsToldWhole (file : List ℕ) (g : Geometry) (f : Found) : Type 0 where
  pub found : IsFoundFor file g f
  pub files : TellsFiles file g f
  pub meta : TellsOwnMeta g f

-- So it stands in the list, where the volume tells its number of meta bytes.
abbrev pub IsListedWhole : List ℕ → Geometry → List Found → Type 0
IsListedWhole file g list = TellsMeta g file → BeginsWith file g → AreRanked file list → Any (IsToldWhole file g) list
