-- Where collection stops, and which pages are had then.
use Rattle.std.specs.Prelude.{◌≡◌, ℕ, ◌+◌, ◌-◌, ◌<◌, ◌≤◌, ◌^◌, List, true, false, Some, None}
use Rattle.geometry.specs.declared.geometry.Geometry.{Geometry}
use Rattle.geometry.specs.Numbers.{ceil, entries}
use Rattle.table_model.specs.Room.{index_count, data_count}
use Rattle.image_model.specs.Places.{IsImage}
use Rattle.image_model.specs.Tables.{table_of}
use Rattle.image_model.specs.Tidy.{IsTidy, free_blocks, HasReserve}
use Rattle.image_model.specs.Kinds.{is_data_block, data_blocks, other_blocks}
use Rattle.image_model.specs.Collect.{deleted_in, is_worth, is_fitting, chosen_block, are_had, is_stuck}
use Rattle.room_laws.specs.Measure.{measure}
use Rattle.room_laws.specs.Counting.{counts_of}

-- There are two more blocks than the index pages of the table need at least and the data blocks are.
abbrev pub HasBound : Geometry → List ℕ → Type 0
HasBound g image = ceil (index_count g (table_of g image)) (entries g) + data_blocks g image + 2 ≤ g.blocks

-- The blocks hold the pages of the table with so many more of each kind, and two are left.
abbrev pub HasRoomFor : Geometry → List ℕ → (index pages : ℕ) → Type 0
HasRoomFor g image index pages =
    ceil (index_count g (table_of g image) + index) (entries g) + ceil (data_count g (table_of g image) + pages) (entries g) + 2 ≤ g.blocks

-- a number that each cleaning lowers
unfoldable pub gc_measure : Geometry → List ℕ → ℕ
gc_measure g image = measure (entries g) (counts_of g image)

-- The image is tidy, with a free block and the bound.
pub record CanClean (g : Geometry) (image : List ℕ) : Type 0 where
  pub image_is : IsImage g image
  pub tidy : IsTidy g image
  pub some : 0 < free_blocks g image
  pub bound : HasBound g image

-- A tidy image with its reserve can be cleaned.
abbrev pub ReserveCanClean : Geometry → Type 0
ReserveCanClean g = (image : List ℕ) → IsImage g image → IsTidy g image → HasReserve g image → CanClean g image

-- Of a tidy image the number is below the greatest of 64 bits.
abbrev pub MeasureIsSmall : Geometry → Type 0
MeasureIsSmall g = (image : List ℕ) → IsTidy g image → gc_measure g image < 2 ^ 64 - 1

-- With two free blocks every block fits.
abbrev pub ReserveFitsEach : Geometry → Type 0
ReserveFitsEach g = (image : List ℕ) (block : ℕ) → IsTidy g image → HasReserve g image → block < g.blocks → is_fitting g image block ≡ true

-- With one free block the chosen block has no live data page.
abbrev pub LastFreeIsPlain : Geometry → Type 0
LastFreeIsPlain g = (image : List ℕ) (block : ℕ) → CanClean g image → free_blocks g image < 2 → chosen_block g image ≡ Some block →
    is_data_block g image block ≡ false

-- Where no block is chosen two blocks are free.
abbrev pub StoppedHasReserve : Geometry → Type 0
StoppedHasReserve g = (image : List ℕ) → CanClean g image → chosen_block g image ≡ None → HasReserve g image

-- Nor is a block worth cleaning then.
abbrev pub StoppedHasNoWorth : Geometry → Type 0
StoppedHasNoWorth g = (image : List ℕ) (block : ℕ) → CanClean g image → chosen_block g image ≡ None → block < g.blocks → is_worth g image block ≡ false

-- Collection is never stuck.
abbrev pub NeverStuck : Geometry → Type 0
NeverStuck g = (image : List ℕ) → CanClean g image → is_stuck g image ≡ false

-- The image is packed: its index pages and data pages lie in as few blocks as they can, and nothing is deleted.
pub record IsPacked (g : Geometry) (image : List ℕ) : Type 0 where
  pub deleted : (block : ℕ) → block < g.blocks → deleted_in g image block ≡ 0
  pub index : other_blocks g image ≡ ceil (index_count g (table_of g image)) (entries g)
  pub pages : data_blocks g image ≡ ceil (data_count g (table_of g image)) (entries g)

-- Where no block is worth cleaning the image is packed.
abbrev pub NoWorthIsPacked : Geometry → Type 0
NoWorthIsPacked g = (image : List ℕ) → IsImage g image → IsTidy g image → ((block : ℕ) → block < g.blocks → is_worth g image block ≡ false) → IsPacked g image

-- Whatever is free, where no block is chosen and collection isn't stuck, no block is worth cleaning.
abbrev pub UnstuckHasNoWorth : Geometry → Type 0
UnstuckHasNoWorth g = (image : List ℕ) (block : ℕ) → IsTidy g image → chosen_block g image ≡ None → is_stuck g image ≡ false → block < g.blocks →
    is_worth g image block ≡ false

-- Then all pages for which there is room are had, with two free blocks.
abbrev pub UnstuckHasPages : Geometry → Type 0
UnstuckHasPages g = (image : List ℕ) (index pages : ℕ) → IsImage g image → IsTidy g image → chosen_block g image ≡ None → is_stuck g image ≡ false →
    HasRoomFor g image index pages →
    HasReserve g image × (are_had g image index pages ≡ true)

-- Where there is room for pages they are had once no block is chosen.
abbrev pub StoppedHasPages : Geometry → Type 0
StoppedHasPages g = (image : List ℕ) (index pages : ℕ) → CanClean g image → HasRoomFor g image index pages → chosen_block g image ≡ None →
    are_had g image index pages ≡ true

-- There is room for pages that are had with two free blocks.
abbrev pub HadNeedsRoom : Geometry → Type 0
HadNeedsRoom g = (image : List ℕ) (index pages : ℕ) → IsImage g image → IsTidy g image → HasReserve g image → are_had g image index pages ≡ true →
    HasRoomFor g image index pages
