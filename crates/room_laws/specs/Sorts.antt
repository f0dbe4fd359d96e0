-- Entries by what they count as, and the counts of blocks by them.
use Rattle.std.specs.Prelude.{◌≡◌, ◌≢◌, ℕ, zero, suc, ◌+◌, ◌<◌, ◌⊎◌, List, length, Bool, true, false, ◌==◌, Option, Some, None, if◌then◌else◌, map}
use Rattle.std.specs.Prelude.{slice_index_or, slice_set}
use Rattle.std.specs.List.{range_with_len}
use Rattle.geometry.specs.declared.geometry.Geometry.{Geometry}
use Rattle.geometry.specs.Numbers.{entries}
use Rattle.image_model.specs.Headers.{names_index}
use Rattle.image_model.specs.Places.{entry_of, block_of, is_entry_page}
use Rattle.image_model.specs.Live.{live_at}
use Rattle.image_model.specs.Tidy.{IsTidy, IsNeat, TellsFree}
use Rattle.image_model.specs.Collect.{count_in}
use Rattle.room_laws.specs.Counts.{Counts, Kind, unused, for_index, for_data, kind_of}
use Rattle.room_laws.specs.Volume.{free_of}
use Rattle.room_laws.specs.Steps.{placed, killed, CanPut}
use Rattle.room_laws.specs.Order.{without}
use Rattle.room_laws.specs.Leaving.{page_killed}
use Rattle.room_laws.specs.Losing.{spoiled}
use Rattle.room_laws.specs.Counting.{block_counts, counts_of}

-- What an entry of a block counts as: that of a live index page, of a live data page, deleted or free.
pub data Sort : Type 0 where
  Index : Sort
  Data : Sort
  Deleted : Sort
  Free : Sort

-- what an entry that isn't 0xFFFF counts as, by its page where that is live
abbrev pub sort_of_page : Option (List ℕ) → Sort
sort_of_page None = Deleted
sort_of_page (Some page) = if names_index page then Index else Data

-- what an entry counts as
unfoldable pub sort_at : Geometry → List ℕ → ℕ → Sort
sort_at g image p = if entry_of g image p == 0xFFFF then Free else sort_of_page (live_at g image p)

-- In a tidy image lookup pages tell the free entries, and so they do in a neat one.
abbrev pub TidyTellsFree : Geometry → Type 0
TidyTellsFree g = (image : List ℕ) → IsTidy g image → TellsFree g image

abbrev pub NeatTellsFree : Geometry → Type 0
NeatTellsFree g = (image : List ℕ) → IsNeat g image → TellsFree g image

-- whether two sorts are the same
abbrev pub same_sort : Sort → Sort → Bool
same_sort Index Index = true
same_sort Data Data = true
same_sort Deleted Deleted = true
same_sort Free Free = true
same_sort x y = false

-- the counts of a block by what its entries count as
unfoldable pub counts_by : Geometry → (ℕ → Sort) → ℕ → Counts
counts_by g sorts block = record {
  index = count_in g block (λ p. same_sort (sorts p) Index);
  pages = count_in g block (λ p. same_sort (sorts p) Data);
  deleted = count_in g block (λ p. same_sort (sorts p) Deleted);
  free = count_in g block (λ p. same_sort (sorts p) Free);
}

-- those of all blocks in order, and of all but one
unfoldable pub all_by : Geometry → (ℕ → Sort) → List Counts
all_by g sorts = map (counts_by g sorts) (range_with_len 0 g.blocks)

abbrev pub others_by : Geometry → (ℕ → Sort) → ℕ → List Counts
others_by g sorts block = without block (all_by g sorts)

-- the place of a block among all but one
abbrev pub beside : ℕ → ℕ → ℕ
beside zero zero = 0
beside zero (suc other) = other
beside (suc block) zero = 0
beside (suc block) (suc other) = suc (beside block other)

-- with another sort at a page
abbrev pub with_sort : ℕ → Sort → (ℕ → Sort) → ℕ → Sort
with_sort p sort sorts q = if q == p then sort else sorts q

-- The counts of an image are those by what its entries count as.
abbrev pub CountsBySorts : Geometry → Type 0
CountsBySorts g = (image : List ℕ) (block : ℕ) → TellsFree g image → block < g.blocks → block_counts g image block ≡ counts_by g (sort_at g image) block

abbrev pub AllBySorts : Geometry → Type 0
AllBySorts g = (image : List ℕ) → TellsFree g image → counts_of g image ≡ all_by g (sort_at g image)

-- Only what entry pages count as matters.
abbrev pub SameSorts : Geometry → Type 0
SameSorts g = (a b : ℕ → Sort) → ((p : ℕ) → is_entry_page g p ≡ true → b p ≡ a p) → all_by g b ≡ all_by g a

-- Every entry of a block counts as something.
abbrev pub SortsAreWhole : Geometry → Type 0
SortsAreWhole g = (sorts : ℕ → Sort) (block : ℕ) →
    (counts_by g sorts block).index + (counts_by g sorts block).pages + (counts_by g sorts block).deleted + (counts_by g sorts block).free ≡ entries g

-- What a changed sort does to the counts of its block: a free entry gets a page or is spoiled, and a page is killed.
pub record SortChanges (g : Geometry) (sorts : ℕ → Sort) (p : ℕ) : Type 0 where
  pub put_index : sorts p ≡ Free → counts_by g (with_sort p Index sorts) (block_of g p) ≡ placed for_index (counts_by g sorts (block_of g p))
  pub put_data : sorts p ≡ Free → counts_by g (with_sort p Data sorts) (block_of g p) ≡ placed for_data (counts_by g sorts (block_of g p))
  pub spoil : sorts p ≡ Free → counts_by g (with_sort p Deleted sorts) (block_of g p) ≡ spoiled (counts_by g sorts (block_of g p))
  pub kill_index : sorts p ≡ Index → counts_by g (with_sort p Deleted sorts) (block_of g p) ≡ killed (counts_by g sorts (block_of g p))
  pub kill_data : sorts p ≡ Data → counts_by g (with_sort p Deleted sorts) (block_of g p) ≡ page_killed (counts_by g sorts (block_of g p))

abbrev pub SortsChange : Geometry → Type 0
SortsChange g = (sorts : ℕ → Sort) (p : ℕ) → is_entry_page g p ≡ true → SortChanges g sorts p

-- What a page counts as, its block counts.
pub record SortIsCounted (g : Geometry) (sorts : ℕ → Sort) (p : ℕ) : Type 0 where
  pub index : sorts p ≡ Index → 0 < (counts_by g sorts (block_of g p)).index
  pub pages : sorts p ≡ Data → 0 < (counts_by g sorts (block_of g p)).pages
  pub deleted : sorts p ≡ Deleted → 0 < (counts_by g sorts (block_of g p)).deleted
  pub free : sorts p ≡ Free → 0 < (counts_by g sorts (block_of g p)).free

abbrev pub SortsAreCounted : Geometry → Type 0
SortsAreCounted g = (sorts : ℕ → Sort) (p : ℕ) → is_entry_page g p ≡ true → SortIsCounted g sorts p

-- A changed sort leaves the counts of all other blocks.
abbrev pub OtherSortsStay : Geometry → Type 0
OtherSortsStay g = (sorts : ℕ → Sort) (sort : Sort) (p block : ℕ) → is_entry_page g p ≡ true → block < g.blocks → block_of g p ≢ block →
    counts_by g (with_sort p sort sorts) block ≡ counts_by g sorts block

-- Of all blocks but one it changes the one that the page lies in, and none if it lies in that one.
abbrev pub SortsAtBlock : Geometry → Type 0
SortsAtBlock g = (sorts : ℕ → Sort) (sort : Sort) (p : ℕ) → is_entry_page g p ≡ true →
    others_by g (with_sort p sort sorts) (block_of g p) ≡ others_by g sorts (block_of g p)

abbrev pub SortsBeside : Geometry → Type 0
SortsBeside g = (sorts : ℕ → Sort) (sort : Sort) (p block : ℕ) → is_entry_page g p ≡ true → block < g.blocks → block_of g p ≢ block →
    others_by g (with_sort p sort sorts) block
    ≡ slice_set (others_by g sorts block) (beside block (block_of g p)) (counts_by g (with_sort p sort sorts) (block_of g p))

-- what stands at a block beside another one
pub record StandsBeside (g : Geometry) (sorts : ℕ → Sort) (block other : ℕ) : Type 0 where
  pub within : beside block other < length (others_by g sorts block)
  pub at : slice_index_or (others_by g sorts block) (beside block other) (counts_by g sorts other) ≡ counts_by g sorts other

abbrev pub BlocksBeside : Geometry → Type 0
BlocksBeside g = (sorts : ℕ → Sort) (block other : ℕ) → block < g.blocks → other < g.blocks → other ≢ block → StandsBeside g sorts block other

-- The page is free outside a block, and its block takes pages of a kind: it has them, or is unused where no block of the kind
-- has a free entry outside that block.
pub record IsPlaceBy (g : Geometry) (sorts : ℕ → Sort) (block : ℕ) (k : Kind) (to : ℕ) : Type 0 where
  pub entry : is_entry_page g to ≡ true
  pub apart : block_of g to ≢ block
  pub free : sorts to ≡ Free
  pub rule : (kind_of (counts_by g sorts (block_of g to)) ≡ k)
      ⊎ ((kind_of (counts_by g sorts (block_of g to)) ≡ unused) × (free_of k (others_by g sorts block) ≡ 0))

-- A page may be put there.
abbrev pub PlaceCanPut : Geometry → Type 0
PlaceCanPut g = (sorts : ℕ → Sort) (block : ℕ) (k : Kind) (to : ℕ) → block < g.blocks → IsPlaceBy g sorts block k to →
    CanPut (others_by g sorts block) k (beside block (block_of g to)) (counts_by g sorts (block_of g to))
