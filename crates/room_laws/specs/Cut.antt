-- What a cut in a cleaning leaves, once each page is whole, wanted and single again.
use Rattle.std.specs.Prelude.{◌≡◌, ℕ, ◌+◌, ◌<◌, ◌≤◌, ◌⊎◌, List, ◌∷◌, length, max, Contains}
use Rattle.room_laws.specs.Counts.{Counts, Kind, unused, for_index, for_data, kind_of}
use Rattle.room_laws.specs.Volume.{IsVolume, blocks_of, free_of, deleted_of, index_total, pages_total, Worth}
use Rattle.room_laws.specs.Bounds.{Bound}
use Rattle.room_laws.specs.Mending.{Mending}

-- A free block is taken only where no block's worth of free entries of the kind is left.
pub record Takes (e : ℕ) (r s : List Counts) (k : Kind) : Type 0 where
  pub taken : blocks_of k r < blocks_of k s → free_of k s < e

-- The index block c among the others r is cut to d among s, where one of its pages was perhaps spoiled on its way.
pub record CutIndex (e : ℕ) (c : Counts) (r : List Counts) (d : Counts) (s : List Counts) : Type 0 where
  pub kind : kind_of c ≡ for_index
  pub still : kind_of d ≡ for_index
  pub free : d.free ≡ c.free
  pub fewer : d.index ≤ c.index
  pub index : d.index + index_total s ≡ c.index + index_total r
  pub copies : index_total s + deleted_of for_index s ≤ index_total r + deleted_of for_index r + c.index
  pub spoiled : deleted_of for_index s ≤ deleted_of for_index r + 1
  pub takes : Takes e r s for_index
  pub pages : blocks_of for_data s ≤ blocks_of for_data r

-- Data copies that were lost lie in data blocks, at most a batch of them, and each whole batch and the one begun renewed
-- an index page.
pub record Batches (e : ℕ) (c : Counts) (r : List Counts) (s : List Counts) : Type 0 where
  pub copies : pages_total s + deleted_of for_data s ≤ pages_total r + deleted_of for_data r + c.pages
  pub batch : deleted_of for_data s ≤ deleted_of for_data r + max 1 (c.deleted + c.free)
  pub renewed : deleted_of for_index s + pages_total r ≤ deleted_of for_index r + pages_total s + 1
  pub takes_data : Takes e r s for_data
  pub takes_index : Takes e r s for_index

-- A block without live pages is there, and no further data block.
abbrev pub DeadBlock : List Counts → List Counts → Type 0
DeadBlock r s = (x : Counts) × Contains s x × (kind_of x ≡ for_index) × (x.index ≡ 0) × (0 < x.deleted) × (blocks_of for_data s ≤ blocks_of for_data r)

-- The data block c among the others r is cut to d among s.
pub record CutData (e : ℕ) (c : Counts) (r : List Counts) (d : Counts) (s : List Counts) : Type 0 where
  pub kind : kind_of c ≡ for_data
  pub free : d.free ≡ c.free
  pub no_index : d.index ≡ 0
  pub index : index_total s ≡ index_total r
  pub pages : d.pages + pages_total s ≡ c.pages + pages_total r
  pub lost : Batches e c r s ⊎ DeadBlock r s

-- A cleaning that was cut leaves a volume that cleanings mend, if a data block was cleaned only while two blocks were free.
abbrev pub CutMends : Type 0
CutMends = (e : ℕ) (c : Counts) (r : List Counts) (d : Counts) (s : List Counts) → IsVolume e (c ∷ r) → IsVolume e (d ∷ s) → length s ≡ length r →
    Bound e (c ∷ r) → 0 < blocks_of unused r → (kind_of c ≡ for_data → 2 ≤ blocks_of unused r) → Worth (c ∷ r) c →
    CutIndex e c r d s ⊎ CutData e c r d s → Mending e (d ∷ s)
