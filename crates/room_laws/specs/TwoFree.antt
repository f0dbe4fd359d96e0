-- Cleanings that begin with two free blocks, whatever block is cleaned.
use Rattle.std.specs.Prelude.{◌≡◌, ℕ, ◌+◌, ◌<◌, ◌≤◌, ◌⊎◌, List, [], ◌∷◌, length}
use Rattle.room_laws.specs.Counts.{Counts, unused, for_index, for_data, kind_of}
use Rattle.room_laws.specs.Volume.{IsVolume, blocks_of, free_of}
use Rattle.room_laws.specs.Bounds.{Bound}
use Rattle.room_laws.specs.Cleaning.{Cleaned}
use Rattle.room_laws.specs.Cut.{CutIndex, CutData}
use Rattle.room_laws.specs.Mending.{Mending}

-- A copy of each kind may be lost: the data block c has an entry that isn't live, or the other blocks r have a free one.
pub record HasSpare (c : Counts) (r : List Counts) : Type 0 where
  pub pages : 0 < c.deleted + c.free + free_of for_data r
  pub index : 0 < c.deleted + c.free + free_of for_index r

-- A cut leaves a volume that cleanings mend, if a data block is cleaned only with such an entry to spare.
abbrev pub TwoCutMends : Type 0
TwoCutMends = (e : ℕ) (c : Counts) (r : List Counts) (d : Counts) (s : List Counts) → IsVolume e (c ∷ r) → IsVolume e (d ∷ s) → length s ≡ length r →
    2 ≤ blocks_of unused r → (kind_of c ≡ for_data → HasSpare c r) →
    CutIndex e c r d s ⊎ CutData e c r d s → Mending e (d ∷ s)

-- Done, a block is free and the bound holds, so that cleanings give back the second.
pub record LeavesOne (e : ℕ) (b : List Counts) : Type 0 where
  pub free : 0 < blocks_of unused b
  pub bound : Bound e b

abbrev pub TwoLeaveOne : Type 0
TwoLeaveOne = (e : ℕ) (a b : List Counts) (c : Counts) → Cleaned e a c b → 2 ≤ blocks_of unused a → LeavesOne e b

-- After the cleaning of a block without live data pages two are free.
abbrev pub TwoLeaveTwo : Type 0
TwoLeaveTwo = (e : ℕ) (a b : List Counts) (c : Counts) → Cleaned e a c b → kind_of c ≡ for_index → 2 ≤ blocks_of unused a → 2 ≤ blocks_of unused b

-- so many of each
abbrev pub counted : (index pages deleted free : ℕ) → Counts
counted i p d f = record { index = i; pages = p; deleted = d; free = f }

-- A full data block is cut between its two pages, the second copy lost, where no entry was to spare.
pub record StrandedCut (e : ℕ) (c : Counts) (r : List Counts) (d : Counts) (s : List Counts) : Type 0 where
  pub was : IsVolume e (c ∷ r)
  pub now : IsVolume e (d ∷ s)
  pub long : length s ≡ length r
  pub two : 2 ≤ blocks_of unused r
  pub cut : CutData e c r d s
  pub lost : Mending e (d ∷ s) → ⊥

-- Without an entry to spare a cut may leave a volume that isn't mended: blocks of two entries, all full but two free ones.
abbrev pub SpareIsNeeded : Type 0
SpareIsNeeded = StrandedCut 2 (counted 0 2 0 0) (counted 2 0 0 0 ∷ counted 0 0 0 2 ∷ counted 0 0 0 2 ∷ [])
    (counted 0 1 1 0) (counted 1 0 1 0 ∷ counted 1 0 0 1 ∷ counted 0 1 1 0 ∷ [])
