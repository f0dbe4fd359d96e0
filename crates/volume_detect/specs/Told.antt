-- The volume of which a row of words has the magics.
use Rattle.std.specs.Prelude.{ℕ, ◌≡◌, ◌-◌, ◌≤◌, List, Option, Some, None, true, false}
use Rattle.geometry.specs.declared.geometry.Geometry.{Geometry}
use Rattle.geometry.specs.declared.magic.MagicKind.{MagicKind}
use Rattle.geometry.specs.declared.magic.MagicKind.TheVariants.{Plain, Length}
use Rattle.volume_detect.specs.Marks.{IsMarkedRow}
use Rattle.volume_detect.specs.Rows.{is_marked}

-- the numbers of a row: page and block in bytes, what the magic tells, and how many blocks there are room for
pub record IsIn (page block room : ℕ) (magic : MagicKind) (g : Geometry) : Type 0 where
  pub page_is : g.page ≡ page
  pub block_is : g.block ≡ block
  pub phys_is : g.phys ≡ block
  pub magic_is : g.magic ≡ magic
  pub fits : g.blocks ≤ room

-- by the words that are magics of its blocks it is a row
abbrev pub IsRowOf : List ℕ → (first step : ℕ) → Geometry → Type 0
IsRowOf words first step g = IsMarkedRow (is_marked words first step g) g.magic g.blocks

-- a row that ends with a block that has its magic
pub record EndsMarked (words : List ℕ) (first step : ℕ) (g : Geometry) : Type 0 where
  pub last : is_marked words first step g (g.blocks - 1) ≡ true
  pub row : IsRowOf words first step g

-- its first block has its magic, or there is no row of which that is so
abbrev pub IsToldBy : List ℕ → (first step page block room : ℕ) → Geometry → Type 0
IsToldBy words first step page block room g = is_marked words first step g 0 ≡ false →
    (h : Geometry) → IsIn page block room Length h → h.meta ≡ 0 → IsRowOf words first step h → is_marked words first step h 0 ≡ true → ⊥

-- the one volume with the magic of its length, or none
abbrev pub TellsLength : List ℕ → (first step page block room : ℕ) → Option Geometry → Type 0
TellsLength words first step page block room (Some g) = IsIn page block room Length g × (g.meta ≡ 0) × IsRowOf words first step g
    × IsToldBy words first step page block room g
    × ((h : Geometry) → IsIn page block room Length h → IsRowOf words first step h → IsToldBy words first step page block room h → h.blocks ≡ g.blocks)
TellsLength words first step page block room None = (h : Geometry) → IsIn page block room Length h → IsRowOf words first step h → ⊥

-- the longest volume with the plain magic, or none
abbrev pub TellsPlain : List ℕ → (first step page block room : ℕ) → Option Geometry → Type 0
TellsPlain words first step page block room (Some g) = IsIn page block room Plain g × (g.meta ≡ 0) × EndsMarked words first step g
    × ((h : Geometry) → IsIn page block room Plain h → EndsMarked words first step h → h.blocks ≤ g.blocks)
TellsPlain words first step page block room None = (h : Geometry) → IsIn page block room Plain h → EndsMarked words first step h → ⊥

-- a volume of so many blocks, or none
abbrev pub TellsBy : List ℕ → (first step page block room : ℕ) → (blocks : ℕ) → Option Geometry → Type 0
TellsBy words first step page block room blocks (Some g) = IsIn page block room Length g × (g.meta ≡ 0) × (g.blocks ≡ blocks) × IsRowOf words first step g
TellsBy words first step page block room blocks None = (h : Geometry) → IsIn page block room Length h → h.blocks ≡ blocks → IsRowOf words first step h → ⊥

-- the volume that the words of a row tell, by what the magic tells
abbrev pub Tells : List ℕ → (first step page block room : ℕ) → MagicKind → Option Geometry → Type 0
Tells words first step page block room Plain o = TellsPlain words first step page block room o
Tells words first step page block room Length o = TellsLength words first step page block room o
