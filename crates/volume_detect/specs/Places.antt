-- The places at which a volume may begin, numbered: by the byte, then the size of the block, then that of the page, then what the magic tells.
use Rattle.std.specs.Prelude.{ℕ, ◌≡◌, ◌*◌, ◌/◌, ◌%◌, ◌^◌, ◌<◌, ◌≤◌, ◌==◌, List, length, if◌then◌else◌, Option, Some, None}
use Rattle.geometry.specs.declared.geometry.Geometry.{Geometry}
use Rattle.geometry.specs.declared.magic.MagicKind.{MagicKind}
use Rattle.geometry.specs.declared.magic.MagicKind.TheVariants.{Plain, Length}
use Rattle.volume_detect.specs.Candidates.{IsCandidate}

-- the unit of 4,096 bytes, the size of the block and that of the page as powers of two, and what the magic tells
abbrev pub unit_of : ℕ → ℕ
unit_of place = place / 84

abbrev pub block_power : ℕ → ℕ
block_power place = place / 12 % 7

abbrev pub page_power : ℕ → ℕ
page_power place = place / 2 % 6

abbrev pub kind_of : ℕ → MagicKind
kind_of place = if place % 2 == 0 then Plain else Length

-- the byte, the block's bytes and the page's
abbrev pub byte_of : ℕ → ℕ
byte_of place = 4096 * unit_of place

abbrev pub block_bytes : ℕ → ℕ
block_bytes place = 4096 * 2 ^ block_power place

abbrev pub page_bytes : ℕ → ℕ
page_bytes place = 128 * 2 ^ page_power place

-- the geometry has the numbers of that place, and no meta bytes
pub record IsAt (place : ℕ) (g : Geometry) : Type 0 where
  pub page : g.page ≡ page_bytes place
  pub block : g.block ≡ block_bytes place
  pub phys : g.phys ≡ block_bytes place
  pub meta : g.meta ≡ 0
  pub magic : g.magic ≡ kind_of place

-- a candidate at that place
pub record IsFoundAt (file : List ℕ) (place : ℕ) (g : Geometry) : Type 0 where
  pub numbers : IsAt place g
  pub candidate : IsCandidate file (byte_of place) g

-- how many places a file has
abbrev pub place_count : List ℕ → ℕ
place_count file = 84 * (length file / 4096)

-- what stands at a place: the one candidate, or none
abbrev pub FoundAt : List ℕ → ℕ → Option Geometry → Type 0
FoundAt file place (Some g) = IsFoundAt file place g × ((h : Geometry) → IsFoundAt file place h → h.blocks ≡ g.blocks)
FoundAt file place None = (h : Geometry) → IsFoundAt file place h → ⊥

-- the next candidate from a place on, or there is none
abbrev pub NextFound : List ℕ → ℕ → Option (ℕ × Geometry) → Type 0
NextFound file from (Some (place, g)) = (from ≤ place) × FoundAt file place (Some g) × ((p : ℕ) (h : Geometry) → from ≤ p → p < place → IsFoundAt file p h → ⊥)
NextFound file from None = (p : ℕ) (h : Geometry) → from ≤ p → IsFoundAt file p h → ⊥

-- a candidate stands at a place of the file
abbrev pub HasPlace : List ℕ → ℕ → Geometry → Type 0
HasPlace file at g = (place : ℕ) × (place < place_count file) × (byte_of place ≡ at) × IsFoundAt file place g

-- a candidate of the same numbers, with no meta bytes, stands at the first byte
pub record IsFoundFirst (file : List ℕ) (g : Geometry) : Type 0 where
  pub candidate : Geometry
  pub page : candidate.page ≡ g.page
  pub block : candidate.block ≡ g.block
  pub blocks : candidate.blocks ≡ g.blocks
  pub phys : candidate.phys ≡ g.phys
  pub magic : candidate.magic ≡ g.magic
  pub place : HasPlace file 0 candidate
