-- Images that give their reserve back.
use Rattle.std.specs.Prelude.{◌≡◌, ◌≢◌, ℕ, ◌+◌, ◌*◌, ◌<◌, ◌≤◌, ◌⊎◌, List, [], ◌∷◌, length, max, true, false, Some, All}
use Rattle.geometry.specs.declared.geometry.Geometry.{Geometry}
use Rattle.nor_core.specs.Flash.{SameOutside}
use Rattle.geometry.specs.Numbers.{entries}
use Rattle.image_model.specs.Places.{IsImage, has_magic, block_of}
use Rattle.image_model.specs.Live.{live_at}
use Rattle.image_model.specs.Tables.{table_of}
use Rattle.image_model.specs.Headers.{names_index}
use Rattle.image_model.specs.Tidy.{IsTidy, is_free_block, free_blocks, HasReserve}
use Rattle.image_model.specs.Kinds.{is_data_block}
use Rattle.image_model.specs.Collect.{deleted_in, free_in, is_worth, chosen_block, free_where, takes_index, takes_data}
use Rattle.room_laws.specs.Counts.{for_index, for_data}
use Rattle.room_laws.specs.Places.{HadWith}
use Rattle.room_laws.specs.Stopping.{CanClean}
use Rattle.room_laws.specs.Mends.{CanMend}
use Rattle.room_laws.specs.Leaving.{Emptying}
use Rattle.room_laws.specs.Sorts.{Sort, Index, Data, sort_at, counts_by, others_by, with_sort, IsPlaceBy}
use Rattle.room_laws.specs.Staged.{IsStaged}
use Rattle.room_laws.specs.Ways.{Move, AreMoves, OnWay, IsNamedBy, IsBatch}

-- Whatever the stages of a check leave of the image, cleanings give that two free blocks.
pub record Recovers (g : Geometry) (image : List ℕ) : Type 0 where
  pub mends : (now : List ℕ) → IsImage g now → IsStaged g image now → CanMend g now

-- An image with its reserve keeps it in the stages.
abbrev pub ReserveMends : Geometry → Type 0
ReserveMends g = (image : List ℕ) → HasReserve g image → Recovers g image

-- So does an image that cleanings give two free blocks as it stands.
abbrev pub MendedRecovers : Geometry → Type 0
MendedRecovers g = (image : List ℕ) → CanMend g image → Recovers g image

-- A copy of each kind may be lost where a data block is cleaned: it has an entry that isn't live, or other data blocks have a free one, and so
-- have blocks that take index pages.
pub record HasSpareEntries (g : Geometry) (image : List ℕ) (block : ℕ) : Type 0 where
  pub pages : 0 < deleted_in g image block + free_where g image (takes_data g image)
  pub index : 0 < deleted_in g image block + free_in g image block + free_where g image (takes_index g image)

-- The block of an image that can be cleaned is in use, and holds a live data page only where two blocks are free. It is worth cleaning, or three
-- blocks are free, or two and entries to spare if it holds a live data page.
pub record MayCut (g : Geometry) (first : List ℕ) (block : ℕ) : Type 0 where
  pub can : CanClean g first
  pub within : block < g.blocks
  pub used : is_free_block g first block ≡ false
  pub reserve : is_data_block g first block ≡ true → HasReserve g first
  pub gains : (is_worth g first block ≡ true) ⊎ (3 ≤ free_blocks g first)
      ⊎ ((2 ≤ free_blocks g first) × (is_data_block g first block ≡ true → HasSpareEntries g first block))

-- The chosen block is such a one.
abbrev pub ChosenMayCut : Geometry → Type 0
ChosenMayCut g = (first : List ℕ) (block : ℕ) → CanClean g first → chosen_block g first ≡ Some block → MayCut g first block

-- Live pages went out of a block of a first image, by what its entries counted as at first and count as now.
abbrev pub EmptyingTo : Geometry → (first : List ℕ) (block : ℕ) (sorts : ℕ → Sort) (carried : ℕ) → Type 0
EmptyingTo g first block sorts carried =
    Emptying (entries g) (counts_by g (sort_at g first) block) (others_by g (sort_at g first) block) (counts_by g sorts block) (others_by g sorts block) carried

-- The live pages of a block, and as many index pages as it has live data pages, find places in other blocks.
abbrev pub HasPlaces : Geometry → (block : ℕ) (sorts : ℕ → Sort) → Type 0
HasPlaces g block sorts =
    HadWith (entries g) (others_by g sorts block) 0 ((counts_by g sorts block).index + (counts_by g sorts block).pages) (counts_by g sorts block).pages

-- A tidy image between two moves out of a block of a first one.
pub record IsBetween (g : Geometry) (first : List ℕ) (block : ℕ) (image : List ℕ) : Type 0 where
  pub image_is : IsImage g image
  pub tidy : IsTidy g image
  pub table : table_of g image ≡ table_of g first
  pub emptying : EmptyingTo g first block (sort_at g image) 0

-- An image that has its table, and pages on their way.
pub record IsOnWay (g : Geometry) (moves : List Move) (was image : List ℕ) : Type 0 where
  pub moves_are : AreMoves g was moves
  pub way : OnWay g moves was image
  pub table : table_of g image ≡ table_of g was

-- Where nothing is on its way, or only begins, the image recovers.
abbrev pub StillMends : Geometry → Type 0
StillMends g = (first was image : List ℕ) (block : ℕ) → MayCut g first block → IsBetween g first block was → IsOnWay g [] was image → Recovers g image

-- An index page goes out of the block, by the rule.
pub record IsIndexWay (g : Geometry) (block : ℕ) (sorts : ℕ → Sort) (move : Move) : Type 0 where
  pub from : block_of g move.from ≡ block
  pub sort : sorts move.from ≡ Index
  pub place : IsPlaceBy g sorts block for_index move.to

-- Where it is on its way the image recovers.
abbrev pub IndexWayMends : Geometry → Type 0
IndexWayMends g = (first was image : List ℕ) (block : ℕ) (move : Move) → MayCut g first block → IsBetween g first block was →
    IsIndexWay g block (sort_at g was) move →
    IsOnWay g (move ∷ []) was image → Recovers g image

-- what pages count as once copies of data pages are at the places of some moves
abbrev pub with_data : List Move → (ℕ → Sort) → ℕ → Sort
with_data [] sorts = sorts
with_data (move ∷ moves) sorts = with_sort move.to Data (with_data moves sorts)

-- Data pages go out of the block, each by the rule, the last one in front.
unfoldable pub ArePagesWay : Geometry → (block : ℕ) (sorts : ℕ → Sort) → List Move → Type 0
ArePagesWay g block sorts [] = Unit {0}
ArePagesWay g block sorts (move ∷ moves) =
    (block_of g move.from ≡ block) × (sorts move.from ≡ Data) × IsPlaceBy g (with_data moves sorts) block for_data move.to × ArePagesWay g block sorts moves

-- the longest batch: as many as the deleted and free entries of the block at first, or one
abbrev pub batch_most : Geometry → (first : List ℕ) (block : ℕ) → ℕ
batch_most g first block = max 1 (deleted_in g first block + free_in g first block)

-- Where a batch is on its way and its index page isn't put, the image recovers.
abbrev pub PagesWayMend : Geometry → Type 0
PagesWayMend g = (first was image : List ℕ) (block at : ℕ) (page : List ℕ) (moves : List Move) → MayCut g first block → IsBetween g first block was →
    ArePagesWay g block (sort_at g was) moves →
    length moves ≤ batch_most g first block → live_at g was at ≡ Some page → names_index page ≡ true → All (IsNamedBy g was page) moves →
    IsOnWay g moves was image → Recovers g image

-- So it does where its index page is put too, and the old pages are killed.
abbrev pub BatchWayMends : Geometry → Type 0
BatchWayMends g = (first was image : List ℕ) (block : ℕ) (index : Move) (moves : List Move) → MayCut g first block → IsBetween g first block was →
    ArePagesWay g block (sort_at g was) moves →
    0 < length moves → length moves ≤ batch_most g first block → block_of g index.from ≢ block →
    IsPlaceBy g (with_data moves (sort_at g was)) block for_index index.to →
    IsBatch g was image index moves → IsOnWay g (index ∷ moves) was image → Recovers g image

-- No live page is left in a block.
pub record IsEmptied (g : Geometry) (sorts : ℕ → Sort) (block : ℕ) : Type 0 where
  pub index : (counts_by g sorts block).index ≡ 0
  pub pages : (counts_by g sorts block).pages ≡ 0

-- Where the emptied block is being made fresh the image recovers.
abbrev pub FreshWayMends : Geometry → Type 0
FreshWayMends g = (first was image : List ℕ) (block : ℕ) → MayCut g first block → IsBetween g first block was → IsEmptied g (sort_at g was) block →
    IsImage g image → table_of g image ≡ table_of g was →
    SameOutside (block * g.block) g.block was image → (has_magic g image block ≡ false) ⊎ (is_free_block g image block ≡ true) → Recovers g image
