-- The single steps of a cleaning, over the blocks other than the one that is cleaned.
use Rattle.std.specs.Prelude.{◌≡◌, ℕ, ◌+◌, ◌-◌, ◌<◌, ◌≤◌, ◌⊎◌, List, ◌∷◌, length, slice_index_or, slice_set, All}
use Rattle.room_laws.specs.Counts.{Counts, IsBlock, Kind, unused, for_index, for_data, kind_of}
use Rattle.room_laws.specs.Volume.{IsVolume, blocks_of, free_of, deleted_of, index_total, pages_total}
use Rattle.room_laws.specs.Cleaning.{Cleaned}
use Rattle.room_laws.specs.Cut.{Takes}

-- a block once a page of a kind was put into it
abbrev pub placed : Kind → Counts → Counts
placed for_index c = record { index = c.index + 1; pages = c.pages; deleted = c.deleted; free = c.free - 1 }
placed for_data c = record { index = c.index; pages = c.pages + 1; deleted = c.deleted; free = c.free - 1 }
placed unused c = c

-- a block once one of its index pages was killed
abbrev pub killed : Counts → Counts
killed c = record { index = c.index - 1; pages = c.pages; deleted = c.deleted + 1; free = c.free }

-- A page of kind k may go into block i: it has a free entry and is of the kind, or is free where no block of the kind has
-- a free entry.
pub record CanPut (r : List Counts) (k : Kind) (i : ℕ) (c : Counts) : Type 0 where
  pub within : i < length r
  pub at : slice_index_or r i c ≡ c
  pub place : 0 < c.free
  pub rule : (kind_of c ≡ k) ⊎ ((kind_of c ≡ unused) × (free_of k r ≡ 0))

-- Steps lead from r to s, and n index pages were killed there.
pub record Reached (e : ℕ) (r : List Counts) (s : List Counts) (n : ℕ) : Type 0 where
  pub blocks : All (IsBlock e) s
  pub long : length s ≡ length r
  pub on_index : Takes e r s for_index
  pub on_data : Takes e r s for_data
  pub index_deleted : deleted_of for_index s ≡ deleted_of for_index r + n
  pub data_deleted : deleted_of for_data s ≡ deleted_of for_data r

-- Without a step nothing is killed.
abbrev pub ReachedStart : Type 0
ReachedStart = (e : ℕ) (r : List Counts) → All (IsBlock e) r → Reached e r r 0

-- One step puts an index page.
abbrev pub ReachedIndex : Type 0
ReachedIndex = (e : ℕ) (r s : List Counts) (n i : ℕ) (c : Counts) → Reached e r s n → CanPut s for_index i c →
    Reached e r (slice_set s i (placed for_index c)) n

-- One step puts a data page.
abbrev pub ReachedData : Type 0
ReachedData = (e : ℕ) (r s : List Counts) (n i : ℕ) (c : Counts) → Reached e r s n → CanPut s for_data i c → Reached e r (slice_set s i (placed for_data c)) n

-- One step kills an index page.
abbrev pub ReachedKill : Type 0
ReachedKill = (e : ℕ) (r s : List Counts) (n i : ℕ) (c : Counts) → Reached e r s n → i < length s → slice_index_or s i c ≡ c →
    kind_of c ≡ for_index → 0 < c.index →
    Reached e r (slice_set s i (killed c)) (n + 1)

-- Once the cleaned block is fresh these steps were a cleaning.
abbrev pub ReachedEnd : Type 0
ReachedEnd = (e : ℕ) (c d : Counts) (r s : List Counts) (n : ℕ) → IsVolume e (c ∷ r) → Reached e r s n → (kind_of c ≡ for_index → n ≡ 0) →
    blocks_of for_index s ≤ blocks_of for_index r + 1 → d.index ≡ 0 → d.pages ≡ 0 → d.deleted ≡ 0 → d.free ≡ e → index_total s ≡ c.index + index_total r →
    pages_total s ≡ c.pages + pages_total r →
    Cleaned e (c ∷ r) c (d ∷ s)
