-- Live pages leave a block, one after the other, until none is left.
use Rattle.std.specs.Prelude.{◌≡◌, ℕ, ◌+◌, ◌-◌, ◌<◌, ◌≤◌, List, ◌∷◌, length, All, slice_index_or, slice_set}
use Rattle.room_laws.specs.Counts.{Counts, IsBlock, for_index, for_data, kind_of}
use Rattle.room_laws.specs.Volume.{IsVolume, blocks_of, free_of, deleted_of, index_total, pages_total, need}
use Rattle.room_laws.specs.Cleaning.{Cleaned}
use Rattle.room_laws.specs.Mending.{DataStay}
use Rattle.room_laws.specs.Steps.{placed, killed, CanPut, Reached}
use Rattle.room_laws.specs.Order.{Rearranged, Stays}

-- Live pages go out of a block, which was c at first and is d now; the others were r and are s. So many data pages were
-- carried since an index page was renewed last.
pub record Emptying (e : ℕ) (c : Counts) (r : List Counts) (d : Counts) (s : List Counts) (carried : ℕ) : Type 0 where
  pub renewed : ℕ
  pub reached : Reached e r s renewed
  pub stays : Stays r s
  pub spent : blocks_of for_data s + need e d.pages (free_of for_data s) ≤ blocks_of for_data r + need e c.pages (free_of for_data r)
  pub free : d.free ≡ c.free
  pub whole : d.index + d.pages + d.deleted ≡ c.index + c.pages + c.deleted
  pub index : d.index ≤ c.index
  pub few : renewed + carried + d.pages ≤ c.pages

-- There are as many pages of both kinds as at first.
pub record SameTotals (c : Counts) (r : List Counts) (d : Counts) (s : List Counts) : Type 0 where
  pub index : d.index + index_total s ≡ c.index + index_total r
  pub pages : d.pages + pages_total s ≡ c.pages + pages_total r

-- a block once a data page of it was killed
abbrev pub page_killed : Counts → Counts
page_killed c = record { index = c.index; pages = c.pages - 1; deleted = c.deleted + 1; free = c.free }

-- a block that was made fresh
abbrev pub fresh : ℕ → Counts
fresh e = record { index = 0; pages = 0; deleted = 0; free = e }

-- At first no page has left.
abbrev pub EmptyingStarts : Type 0
EmptyingStarts = (e : ℕ) (c : Counts) (r : List Counts) → All (IsBlock e) r → Emptying e c r c r 0

-- An index page leaves, into a block that the rule allows.
abbrev pub IndexLeaves : Type 0
IndexLeaves = (e : ℕ) (c : Counts) (r : List Counts) (d : Counts) (s : List Counts) (carried i : ℕ) (x : Counts) → CanPut s for_index i x → 0 < d.index →
    Emptying e c r d s carried → Emptying e c r (killed d) (slice_set s i (placed for_index x)) carried

-- So does a data page, which is carried.
abbrev pub PageLeaves : Type 0
PageLeaves = (e : ℕ) (c : Counts) (r : List Counts) (d : Counts) (s : List Counts) (carried i : ℕ) (x : Counts) → 0 < e → CanPut s for_data i x → 0 < d.pages →
    Emptying e c r d s carried → Emptying e c r (page_killed d) (slice_set s i (placed for_data x)) (carried + 1)

-- The index page of the carried data pages is renewed: it is put by the rule, and the old one is killed where it lies then.
abbrev pub IndexRenewed : Type 0
IndexRenewed = (e : ℕ) (c : Counts) (r : List Counts) (d : Counts) (s t : List Counts) (carried i j : ℕ) (x y : Counts) → 0 < carried → CanPut s for_index i x →
    t ≡ slice_set s i (placed for_index x) → j < length t → slice_index_or t j y ≡ y → kind_of y ≡ for_index → 0 < y.index →
    Emptying e c r d s carried → Emptying e c r d (slice_set t j (killed y)) 0

-- What one whole cleaning of the block c among the others r leaves: it is a cleaning, the other data blocks stay, and in
-- other blocks at most one entry more is deleted for each of its data pages.
pub record WholeCleaning (e : ℕ) (c : Counts) (r s : List Counts) : Type 0 where
  pub cleaned : Cleaned e (c ∷ r) c (fresh e ∷ s)
  pub stay : DataStay (c ∷ r) c (fresh e ∷ s)
  pub deleted : deleted_of for_index s + deleted_of for_data s ≤ deleted_of for_index r + deleted_of for_data r + c.pages

-- Once no live page is left and the block is made fresh, that was a cleaning.
abbrev pub EmptyingCleans : Type 0
EmptyingCleans = (e : ℕ) (c : Counts) (r : List Counts) (d : Counts) (s : List Counts) (carried : ℕ) → IsVolume e (c ∷ r) →
    Emptying e c r d s carried → SameTotals c r d s →
    d.index ≡ 0 → d.pages ≡ 0 → WholeCleaning e c r s

-- A cleaning is one in any order of the blocks.
abbrev pub CleanedRearranged : Type 0
CleanedRearranged = (e : ℕ) (a a' b b' : List Counts) (c : Counts) → IsVolume e a' → IsVolume e b' → Rearranged a a' → Rearranged b b' →
    Cleaned e a c b → Cleaned e a' c b'
