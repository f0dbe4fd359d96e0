-- Rests of longer volumes, by the words that may be magics.
use Rattle.std.specs.Prelude.{ℕ, ◌≡◌, ◌+◌, ◌-◌, ◌*◌, ◌<◌, ◌≤◌, List, true}
use Rattle.geometry.specs.declared.geometry.Geometry.{Geometry}
use Rattle.volume_detect.specs.Candidates.{SameBlocks}
use Rattle.volume_detect.specs.Marks.{HasNoWideGap, widest_gap}
use Rattle.volume_detect.specs.Rows.{is_marked}

-- The row is the rest of one with `more` blocks before it, of which the first has its magic. No gap is too wide.
pub record IsRestBy (words : List ℕ) (first step : ℕ) (g : Geometry) (more : ℕ) : Type 0 where
  pub longer : Geometry
  pub inside : step * more ≤ first
  pub same : SameBlocks g longer
  pub blocks : longer.blocks ≡ g.blocks + more
  pub marked : is_marked words (first - step * more) step longer 0 ≡ true
  pub gaps : HasNoWideGap (is_marked words (first - step * more) step longer) (widest_gap longer.magic) longer.blocks

-- The row is the rest of one that is longer by some blocks, and by no more than a gap is wide and one.
abbrev pub IsNearRest : List ℕ → (first step : ℕ) → Geometry → Type 0
IsNearRest words first step g = (more : ℕ) × (0 < more) × (more < widest_gap g.magic + 2) × IsRestBy words first step g more
