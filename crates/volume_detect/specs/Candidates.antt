-- Which volumes a file may hold, by the magics of their blocks.
use Rattle.std.specs.Prelude.{ℕ, ◌≡◌, ◌+◌, ◌-◌, ◌*◌, ◌%◌, ◌^◌, ◌<◌, ◌≤◌, ◌⊎◌, List, length, drop, true, false}
use Rattle.geometry.specs.declared.geometry.Geometry.{Geometry}
use Rattle.geometry.specs.declared.magic.MagicKind.TheVariants.{Plain, Length}
use Rattle.image_model.specs.Places.{has_magic}
use Rattle.volume_detect.specs.Marks.{HasNoWideGap, widest_gap, IsMarkedRow}

-- A volume may begin at each multiple of 4,096 bytes. Its page is a power of two from 128 to 4,096, as every volume's is, its block one from 4,096 to 262,144,
-- and an erase unit is a block.
pub record IsPlace (at : ℕ) (g : Geometry) : Type 0 where
  pub whole : at % 4096 ≡ 0
  pub page : (i : ℕ) × (i < 6) × (g.page ≡ 128 * 2 ^ i)
  pub block : (j : ℕ) × (j < 7) × (g.block ≡ 4096 * 2 ^ j)
  pub phys : g.phys ≡ g.block

-- From that byte on the volume fits into the file, and its blocks are a row by those that have their magic.
pub record IsRow (file : List ℕ) (at : ℕ) (g : Geometry) : Type 0 where
  pub fits : at + g.blocks * g.block ≤ length file
  pub marks : IsMarkedRow (has_magic g (drop at file)) g.magic g.blocks

-- the same numbers but for that of the blocks
pub record SameBlocks (g h : Geometry) : Type 0 where
  pub page : h.page ≡ g.page
  pub block : h.block ≡ g.block
  pub phys : h.phys ≡ g.phys
  pub meta : h.meta ≡ g.meta
  pub magic : h.magic ≡ g.magic

-- The volume is the rest of a longer one, which has `more` blocks before it: the first of these has its magic, and no gap is too wide.
pub record IsRest (file : List ℕ) (at : ℕ) (g : Geometry) (more : ℕ) (h : Geometry) : Type 0 where
  pub some : 0 < more
  pub inside : more * g.block ≤ at
  pub same : SameBlocks g h
  pub blocks : h.blocks ≡ g.blocks + more
  pub gaps : HasNoWideGap (has_magic h (drop (at - more * g.block) file)) (widest_gap h.magic) h.blocks
  pub first : has_magic h (drop (at - more * g.block) file) 0 ≡ true

-- Its last block has its magic, and there is no longer row from that byte on of which that is so. (A gap at the end would be no gap:
-- what lies behind a volume may be anything.)
pub record IsLongest (file : List ℕ) (at : ℕ) (g : Geometry) : Type 0 where
  pub last : has_magic g (drop at file) (g.blocks - 1) ≡ true
  pub most : (h : Geometry) → SameBlocks g h → IsRow file at h → has_magic h (drop at file) (h.blocks - 1) ≡ true → h.blocks ≤ g.blocks

-- Its first block tells how many blocks there are, or there is no row of which the first block does. (Then the second tells it.)
abbrev pub IsTold : List ℕ → (at : ℕ) → Geometry → Type 0
IsTold file at g = has_magic g (drop at file) 0 ≡ false → (h : Geometry) → SameBlocks g h → IsRow file at h → has_magic h (drop at file) 0 ≡ true → ⊥

-- A volume that the file may hold from that byte on. Where the magic tells the length, the first block tells how many blocks there are, or
-- the second; else as many as there may be.
pub record IsCandidate (file : List ℕ) (at : ℕ) (g : Geometry) : Type 0 where
  pub place : IsPlace at g
  pub row : IsRow file at g
  pub longest : g.magic ≡ Plain → IsLongest file at g
  pub told : g.magic ≡ Length → IsTold file at g
  pub no_rest : (more : ℕ) (h : Geometry) → IsRest file at g more h → ⊥

-- A volume of which each block has its magic begins with the file, and ends with it, or its magic tells where it ends.
pub record IsFront (file : List ℕ) (g : Geometry) : Type 0 where
  pub block : (j : ℕ) × (j < 7) × (g.block ≡ 4096 * 2 ^ j)
  pub phys : g.phys ≡ g.block
  pub ends : (length file ≡ g.blocks * g.block) ⊎ ((g.magic ≡ Length) × (g.blocks * g.block ≤ length file))
  pub magics : (b : ℕ) → b < g.blocks → has_magic g file b ≡ true
