-- Copies of pages that were lost on their way out of a block.
use Rattle.std.specs.Prelude.{◌≡◌, ℕ, ◌+◌, ◌-◌, ◌<◌, ◌≤◌, ◌⊎◌, List, ◌∷◌, length, max, All, Contains, slice_index_or, slice_set}
use Rattle.room_laws.specs.Counts.{Counts, IsBlock, Kind, unused, for_index, for_data, kind_of}
use Rattle.room_laws.specs.Volume.{IsVolume, blocks_of, free_of, deleted_of, index_total, pages_total}
use Rattle.room_laws.specs.Cut.{CutIndex, CutData}
use Rattle.room_laws.specs.Steps.{CanPut}
use Rattle.room_laws.specs.Leaving.{Emptying, SameTotals}

-- a block once a free entry of it was spoiled
abbrev pub spoiled : Counts → Counts
spoiled c = record { index = c.index; pages = c.pages; deleted = c.deleted + 1; free = c.free - 1 }

-- n free entries of data blocks were spoiled.
pub record Spoils (e : ℕ) (s t : List Counts) (n : ℕ) : Type 0 where
  pub blocks : All (IsBlock e) t
  pub long : length t ≡ length s
  pub kinds : (k : Kind) → blocks_of k t ≡ blocks_of k s
  pub index_live : index_total t ≡ index_total s
  pub pages_live : pages_total t ≡ pages_total s
  pub index_free : free_of for_index t ≡ free_of for_index s
  pub index_deleted : deleted_of for_index t ≡ deleted_of for_index s
  pub data_free : free_of for_data t + n ≡ free_of for_data s
  pub data_deleted : deleted_of for_data t ≡ deleted_of for_data s + n

-- Without a spoiled entry nothing changes.
abbrev pub SpoilsNone : Type 0
SpoilsNone = (e : ℕ) (s : List Counts) → All (IsBlock e) s → Spoils e s s 0

-- A free entry of a data block is spoiled.
abbrev pub SpoilsOne : Type 0
SpoilsOne = (e : ℕ) (s : List Counts) (i : ℕ) (c : Counts) → All (IsBlock e) s → i < length s → slice_index_or s i c ≡ c → kind_of c ≡ for_data → 0 < c.free →
    Spoils e s (slice_set s i (spoiled c)) 1

-- Some entries are spoiled, and then others.
abbrev pub SpoilsOn : Type 0
SpoilsOn = (e : ℕ) (s t u : List Counts) (m n : ℕ) → Spoils e s t m → Spoils e t u n → Spoils e s u (m + n)

-- The place that an index page was to go to, by the rule, was spoiled.
abbrev pub LosesIndex : (s t : List Counts) → Type 0
LosesIndex s t = (i : ℕ) × (x : Counts) × CanPut s for_index i x × (t ≡ slice_set s i (spoiled x))

-- While a block is emptied, there is no further data block as long as the places in data blocks are too few for its data pages.
abbrev pub OpensFew : Type 0
OpensFew = (e : ℕ) (c : Counts) (r : List Counts) (d : Counts) (s : List Counts) (carried : ℕ) → IsVolume e (c ∷ r) → Emptying e c r d s carried →
    free_of for_data s < d.pages → blocks_of for_data s ≤ blocks_of for_data r

-- A block that some pages have left is one that was cut.
abbrev pub EmptyingIsCut : Type 0
EmptyingIsCut = (e : ℕ) (c : Counts) (r : List Counts) (d : Counts) (s : List Counts) (carried : ℕ) → IsVolume e (c ∷ r) → (kind_of c ≡ unused → ⊥) →
    Emptying e c r d s carried → SameTotals c r d s → CutIndex e c r d s ⊎ CutData e c r d s

-- So it is where the copy of an index page was lost: one of its own if it is a block for index pages.
abbrev pub IndexLostIsCut : Type 0
IndexLostIsCut = (e : ℕ) (c : Counts) (r : List Counts) (d : Counts) (s t : List Counts) (carried : ℕ) → IsVolume e (c ∷ r) → (kind_of c ≡ unused → ⊥) →
    (kind_of c ≡ for_index → 0 < d.index) →
    Emptying e c r d s carried → SameTotals c r d s → LosesIndex s t → CutIndex e c r d t ⊎ CutData e c r d t

-- So it is where copies of data pages were lost in data blocks, not more than a batch, perhaps with the copy of an index page.
abbrev pub PagesLostAreCut : Type 0
PagesLostAreCut = (e : ℕ) (c : Counts) (r : List Counts) (d : Counts) (s s' t : List Counts) (carried n : ℕ) → IsVolume e (c ∷ r) → kind_of c ≡ for_data →
    Emptying e c r d s carried → SameTotals c r d s → (s' ≡ s) ⊎ LosesIndex s s' → Spoils e s' t n → n ≤ d.pages →
    n ≤ max 1 (c.deleted + c.free) → CutData e c r d t

-- A block without live pages is there, no page was lost and no data block more is there.
pub record LeavesOneDead (s t : List Counts) : Type 0 where
  pub block : Counts
  pub one : Contains t block
  pub deleted : 0 < block.deleted
  pub no_index : block.index ≡ 0
  pub no_pages : block.pages ≡ 0
  pub index_live : index_total t ≡ index_total s
  pub pages_live : pages_total t ≡ pages_total s
  pub data_blocks : blocks_of for_data t ≤ blocks_of for_data s

-- So it is where the copies of a block that was opened for them were lost, since data blocks had too few places for its data pages.
abbrev pub DeadIsCut : Type 0
DeadIsCut = (e : ℕ) (c : Counts) (r : List Counts) (d : Counts) (s t : List Counts) (carried : ℕ) → IsVolume e (c ∷ r) → kind_of c ≡ for_data →
    Emptying e c r d s carried → SameTotals c r d s → free_of for_data s < d.pages → LeavesOneDead s t → CutData e c r d t
