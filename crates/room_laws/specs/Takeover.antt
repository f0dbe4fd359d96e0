-- The plan by which blocks that hold both kinds of pages are cleaned whole, one after the other, down to no free block for a while.
use Rattle.std.specs.Prelude.{◌≡◌, ℕ, ◌+◌, ◌*◌, ◌<◌, ◌≤◌, ◌⊎◌, List, [], ◌∷◌, length}
use Rattle.geometry.specs.Numbers.{ceil}
use Rattle.room_laws.specs.Volume.{need}

-- A block that is to be cleaned: its live data pages, how many index pages its cleaning puts, and how many index pages come to blocks for index
-- pages with it for the first time.
pub record Victim : Type 0 where
  pub pages : ℕ
  pub copies : ℕ
  pub comes : ℕ

-- What stands beside the victims: how many blocks there are, the data blocks that stay, and their free entries.
pub record Ground : Type 0 where
  pub blocks : ℕ
  pub stays : ℕ
  pub free : ℕ

-- the data blocks once so many data pages were put into free entries of those that stay, or else into free blocks
abbrev pub data_after : ℕ → Ground → (put : ℕ) → ℕ
data_after e g put = g.stays + need e put g.free

-- The plan: so many index pages lie in blocks for index pages, so many data pages were put. While a victim is cleaned the blocks that index pages and
-- data pages take, with an entry to spare so often, and the victims that are left are at most all blocks; and at the end two are left.
abbrev pub PlanFits : ℕ → Ground → (spare index put : ℕ) → List Victim → Type 0
PlanFits e g spare index put [] = ceil (index + spare) e + data_after e g (put + spare) + 2 ≤ g.blocks
PlanFits e g spare index put (v ∷ vs) = (ceil (index + v.copies + spare) e + data_after e g (put + v.pages + spare) + (1 + length vs) ≤ g.blocks)
    × PlanFits e g spare (index + v.comes) (put + v.pages) vs

-- A volume between two cleanings: so many blocks are free, so many are for index pages, with so many free and deleted entries, and so many
-- victims are left. Nothing was put since the ground was told.
pub record Standing (e : ℕ) (g : Ground) (index left : ℕ) : Type 0 where
  pub unused : ℕ
  pub index_blocks : ℕ
  pub index_free : ℕ
  pub index_deleted : ℕ
  pub entries : 0 < e
  pub all : unused + index_blocks + g.stays + left ≡ g.blocks
  pub whole : index + index_free + index_deleted ≡ index_blocks * e

-- the index pages don't lie as close as they can: an entry of their blocks is deleted, or a block's worth of them is free
abbrev pub IsLoose : (e : ℕ) (g : Ground) (index left : ℕ) → Standing e g index left → Type 0
IsLoose e g index left s = (0 < s.index_deleted) ⊎ (e ≤ s.index_free)

-- The pages of the next victim find places with all free blocks, or a block for index pages can be made better.
abbrev pub PlanFindsPlaces : Type 0
PlanFindsPlaces = (e : ℕ) (g : Ground) (spare index : ℕ) (v : Victim) (vs : List Victim) (s : Standing e g index (1 + length vs)) → PlanFits e g spare index 0 (v ∷ vs) →
    (need e (v.copies + spare) s.index_free + need e (v.pages + spare) g.free ≤ s.unused) ⊎ IsLoose e g index (1 + length vs) s

-- With no victim left two blocks are free, or a block for index pages can be made better.
abbrev pub PlanLeavesTwo : Type 0
PlanLeavesTwo = (e : ℕ) (g : Ground) (spare index : ℕ) (s : Standing e g index 0) → PlanFits e g spare index 0 [] → (2 ≤ s.unused) ⊎ IsLoose e g index 0 s

-- Data pages were put: so many blocks were opened, one only when no entry was free, and so many entries are free now.
pub record Opened (e : ℕ) (g : Ground) (put : ℕ) (h : Ground) : Type 0 where
  pub blocks : h.blocks ≡ g.blocks
  pub opened : ℕ
  pub stays : h.stays ≡ g.stays + opened
  pub free : h.free + put ≡ g.free + opened * e
  pub last : 0 < opened → h.free < e

-- The plan goes on from there.
abbrev pub PlanGoesOn : Type 0
PlanGoesOn = (e : ℕ) (g h : Ground) (spare index put : ℕ) (vs : List Victim) → 0 < e → Opened e g put h → PlanFits e g spare index put vs → PlanFits e h spare index 0 vs

-- Copies that a cut loses are put for nothing, and so many fewer are to spare.
abbrev pub PlanLoses : Type 0
PlanLoses = (e : ℕ) (g : Ground) (spare index put lost : ℕ) (vs : List Victim) → 0 < e → PlanFits e g (spare + lost) index put vs → PlanFits e g spare index (put + lost) vs

-- Of a victim some pages went: v is left of it.
pub record Lessened (was v : Victim) (moved came : ℕ) : Type 0 where
  pub pages : v.pages + moved ≡ was.pages
  pub copies : v.copies + came ≤ was.copies
  pub comes : v.comes + came ≡ was.comes

-- The plan goes on with what is left.
abbrev pub PlanLessens : Type 0
PlanLessens = (e : ℕ) (g : Ground) (spare index put moved came : ℕ) (was v : Victim) (vs : List Victim) → 0 < e → Lessened was v moved came →
    PlanFits e g spare index put (was ∷ vs) → PlanFits e g spare (index + came) (put + moved) (v ∷ vs)

-- So a cut in the cleaning of the first victim leaves a plan for what it leaves, with so many fewer entries to spare as copies of data pages were lost.
abbrev pub PlanIsCut : Type 0
PlanIsCut = (e : ℕ) (g h : Ground) (spare lost index moved came : ℕ) (was v : Victim) (vs : List Victim) → 0 < e → Lessened was v moved came →
    Opened e g (moved + lost) h → PlanFits e g (spare + lost) index 0 (was ∷ vs) → PlanFits e h spare (index + came) 0 (v ∷ vs)
