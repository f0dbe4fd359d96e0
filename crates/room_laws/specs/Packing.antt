-- Where nothing is left to clean, and the pages that are had then.
use Rattle.std.specs.Prelude.{◌≡◌, ℕ, ◌+◌, ◌<◌, ◌≤◌, List, length, Contains}
use Rattle.geometry.specs.Numbers.{ceil}
use Rattle.room_laws.specs.Counts.{Counts, unused, for_index, for_data}
use Rattle.room_laws.specs.Volume.{IsVolume, blocks_of, deleted_of, index_total, pages_total, Worth, Fits, Had}
use Rattle.room_laws.specs.Bounds.{Bound}

-- No block is worth cleaning.
abbrev pub NoneWorth : List Counts → Type 0
NoneWorth v = (c : Counts) → Contains v c → Worth v c → ⊥

-- Nothing is deleted, and each kind has as few blocks as its pages need.
pub record Packed (e : ℕ) (v : List Counts) : Type 0 where
  pub no_index : deleted_of for_index v ≡ 0
  pub no_data : deleted_of for_data v ≡ 0
  pub index : blocks_of for_index v ≡ ceil (index_total v) e
  pub pages : blocks_of for_data v ≡ ceil (pages_total v) e

-- Where no block is worth cleaning the volume is packed.
abbrev pub NoneWorthIsPacked : Type 0
NoneWorthIsPacked = (e : ℕ) (v : List Counts) → IsVolume e v → NoneWorth v → Packed e v

-- The blocks hold the pages with i and d more, and two are left.
abbrev pub RoomFor : ℕ → List Counts → ℕ → ℕ → Type 0
RoomFor e v i d = ceil (index_total v + i) e + ceil (pages_total v + d) e + 2 ≤ length v

-- Where two blocks are free and the pages are had there is room for them.
abbrev pub HadHasRoom : Type 0
HadHasRoom = (e : ℕ) (v : List Counts) (i d : ℕ) → IsVolume e v → 2 ≤ blocks_of unused v → Had e v i d → RoomFor e v i d

-- Where there is room and no block that is worth cleaning fits, two blocks are free and the pages are had.
abbrev pub StoppedIsHad : Type 0
StoppedIsHad = (e : ℕ) (v : List Counts) (i d : ℕ) → IsVolume e v → 0 < blocks_of unused v → Bound e v → RoomFor e v i d →
    ((c : Counts) → Contains v c → Worth v c → Fits e v c → ⊥) → (2 ≤ blocks_of unused v) × Had e v i d
