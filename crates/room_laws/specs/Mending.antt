-- A volume that cleanings give back its reserve.
use Rattle.std.specs.Prelude.{◌≡◌, ◌≢◌, ℕ, ◌+◌, ◌<◌, ◌≤◌, List, length, Contains}
use Rattle.geometry.specs.Numbers.{ceil}
use Rattle.room_laws.specs.Counts.{Counts, unused, for_index, for_data, kind_of}
use Rattle.room_laws.specs.Volume.{IsVolume, blocks_of, free_of, index_total, Worth, Fits}
use Rattle.room_laws.specs.Cleaning.{Cleaned}
use Rattle.room_laws.specs.Bounds.{Bound}

-- A block less is there than the bound asks.
abbrev pub NearBound : ℕ → List Counts → Type 0
NearBound e v = ceil (index_total v) e + blocks_of for_data v + 1 ≤ length v

-- With its deleted entries the data block leaves a block's worth of places for data pages.
pub record Opens (e : ℕ) (v : List Counts) (c : Counts) : Type 0 where
  pub kind : kind_of c ≡ for_data
  pub enough : e ≤ free_of for_data v + c.deleted

-- Cleanings give the volume back two free blocks: it has the bound, or all but one block of it and a data block that leaves
-- a block's worth of places, and in either case a free block or a block that fits.
pub data Mending (e : ℕ) (v : List Counts) : Type 0 where
  strong : Bound e v → 0 < blocks_of unused v → Mending e v
  strong_none : Bound e v → (c : Counts) → Contains v c → kind_of c ≡ for_index → Worth v c → Fits e v c → Mending e v
  near : NearBound e v → (c : Counts) → Contains v c → Opens e v c → 0 < blocks_of unused v → Mending e v
  near_none : NearBound e v → (c : Counts) → Contains v c → Opens e v c → Fits e v c → Mending e v

-- Each data block but the cleaned one stays a data block and keeps its deleted entries.
abbrev pub DataStay : List Counts → Counts → List Counts → Type 0
DataStay a c b = (d : Counts) → Contains a d → kind_of d ≡ for_data → (kind_of c ≡ for_data → d.deleted ≢ c.deleted) →
    (n : Counts) × Contains b n × (kind_of n ≡ for_data) × (d.deleted ≤ n.deleted)

-- While fewer than two blocks are free a block is worth cleaning and fits.
abbrev pub MendingGoesOn : Type 0
MendingGoesOn = (e : ℕ) (v : List Counts) → IsVolume e v → Mending e v → blocks_of unused v < 2 → (c : Counts) × Contains v c × Worth v c × Fits e v c

-- A cleaning keeps that cleanings mend the volume.
abbrev pub CleaningKeepsMending : Type 0
CleaningKeepsMending = (e : ℕ) (a b : List Counts) (c : Counts) → Mending e a → Cleaned e a c b → DataStay a c b → Mending e b
