-- A volume as the list of the counts of its blocks.
use Rattle.std.specs.Prelude.{ℕ, ◌+◌, ◌-◌, ◌<◌, ◌≤◌, ◌⊎◌, List, [], ◌∷◌, All}
use Rattle.geometry.specs.Numbers.{ceil}
use Rattle.room_laws.specs.Counts.{Counts, IsBlock, Kind, unused, for_index, for_data, kind_of, if_kind, if_any}

-- what a number of each block adds up to
abbrev pub total : (Counts → ℕ) → List Counts → ℕ
total f [] = 0
total f (c ∷ v) = f c + total f v

-- how many blocks are of a kind
unfoldable pub blocks_of : Kind → List Counts → ℕ
blocks_of k = total (λ c. if_kind k c 1)

-- the free entries of the blocks of a kind
unfoldable pub free_of : Kind → List Counts → ℕ
free_of k = total (λ c. if_kind k c c.free)

-- the deleted entries of the blocks of a kind
unfoldable pub deleted_of : Kind → List Counts → ℕ
deleted_of k = total (λ c. if_kind k c c.deleted)

-- the live index pages of all blocks
unfoldable pub index_total : List Counts → ℕ
index_total = total (λ c. c.index)

-- the live data pages of all blocks
unfoldable pub pages_total : List Counts → ℕ
pages_total = total (λ c. c.pages)

-- the free entries of blocks with a live index page and no live data page
unfoldable pub free_beside : List Counts → ℕ
free_beside = total (λ c. if_any c.index (if_kind for_index c c.free))

-- Each block has e entries, and at least one.
pub record IsVolume (e : ℕ) (v : List Counts) : Type 0 where
  pub entries : 0 < e
  pub blocks : All (IsBlock e) v

-- the free blocks that n pages need beside so many free entries
abbrev pub need : ℕ → ℕ → ℕ → ℕ
need e n free = ceil (n - free) e

-- The rule by which a block of a kind is worth cleaning.
abbrev pub WorthAs : Kind → List Counts → Counts → Type 0
WorthAs unused v c = ⊥
WorthAs for_index v c = (0 < c.deleted) ⊎ (c.index ≤ free_beside v - c.free)
WorthAs for_data v c = (0 < c.deleted) ⊎ (c.pages ≤ free_of for_data v - c.free)

-- A used block is worth cleaning where it has a deleted entry, or where its live pages are at most the free entries of
-- other blocks that hold a page of its kind and none of the other.
abbrev pub Worth : List Counts → Counts → Type 0
Worth v c = WorthAs (kind_of c) v c

-- The rule by which a block of a kind fits.
abbrev pub FitsAs : Kind → ℕ → List Counts → Counts → Type 0
FitsAs unused e v c = Unit {0}
FitsAs for_index e v c = need e c.index (free_of for_index v - c.free) ≤ blocks_of unused v
FitsAs for_data e v c = need e c.pages (free_of for_data v - c.free) + need e c.pages (free_of for_index v) ≤ blocks_of unused v

-- A block fits where its live pages find places of their kind outside it; those of a data block with as many index pages.
abbrev pub Fits : ℕ → List Counts → Counts → Type 0
Fits e v c = FitsAs (kind_of c) e v c

-- Pages are had where the free blocks above two hold what i index pages and d data pages lack.
abbrev pub Had : ℕ → List Counts → ℕ → ℕ → Type 0
Had e v i d = need e i (free_of for_index v) + need e d (free_of for_data v) ≤ blocks_of unused v - 2
