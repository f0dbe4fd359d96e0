-- The bound that every cleaning keeps, and which blocks fit.
use Rattle.std.specs.Prelude.{◌≡◌, ℕ, ◌+◌, ◌≤◌, List, length, Contains}
use Rattle.geometry.specs.Numbers.{ceil}
use Rattle.room_laws.specs.Counts.{Counts, unused, for_index, for_data, kind_of}
use Rattle.room_laws.specs.Volume.{IsVolume, blocks_of, index_total, Worth, Fits}
use Rattle.room_laws.specs.Cleaning.{Cleaned}

-- There are two more blocks than the index pages need at least and the data blocks are.
abbrev pub Bound : ℕ → List Counts → Type 0
Bound e v = ceil (index_total v) e + blocks_of for_data v + 2 ≤ length v

-- A volume with two free blocks has the bound.
abbrev pub ReserveIsBound : Type 0
ReserveIsBound = (e : ℕ) (v : List Counts) → IsVolume e v → 2 ≤ blocks_of unused v → Bound e v

-- A cleaning keeps the bound.
abbrev pub CleaningKeepsBound : Type 0
CleaningKeepsBound = (e : ℕ) (a b : List Counts) (c : Counts) → Cleaned e a c b → Bound e a → Bound e b

-- With two free blocks every block fits.
abbrev pub ReserveFitsAll : Type 0
ReserveFitsAll = (e : ℕ) (v : List Counts) → IsVolume e v → 2 ≤ blocks_of unused v → (c : Counts) → Contains v c → Fits e v c

-- With one free block and the bound a block for index pages is worth cleaning and fits.
abbrev pub LastFreeFitsOne : Type 0
LastFreeFitsOne = (e : ℕ) (v : List Counts) → IsVolume e v → blocks_of unused v ≡ 1 → Bound e v →
    (c : Counts) × Contains v c × (kind_of c ≡ for_index) × Worth v c × Fits e v c
