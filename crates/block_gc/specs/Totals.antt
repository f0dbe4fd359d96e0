-- What the choice reads of a block's counts, and what the blocks add up to.
use Rattle.std.specs.Prelude.{◌≡◌, ℕ, ◌+◌, ◌-◌, ◌*◌, ◌%◌, ◌≤◌, List, Bool, not, nat_lt, nat_le, ◌==◌, ◌&&◌, ◌||◌, ℤ, pos, ◌-ℤ◌, if◌then◌else◌}
use Rattle.geometry.specs.declared.geometry.Geometry.{Geometry}
use Rattle.flash_view.specs.declared.counts.BlockCounts.{BlockCounts}
use Rattle.image_model.specs.Tidy.{is_free_block, free_blocks}
use Rattle.image_model.specs.Collect.{free_in, free_where, takes_index, takes_data, holds_index, blocks_for}
use Rattle.block_gc.specs.declared.totals.Room.{Room}

-- the score of a block by its counts and the next erase count
abbrev pub score_by : BlockCounts → ℕ → ℤ
score_by c next = pos (5 * c.deleted + 50 * ((next + 0x8000 - c.erases) % 0x8000)) -ℤ pos (c.index_live + c.data_live)

-- the room of one block by its counts: its free entries for index pages, those for data pages, those beside index pages, and
-- the block itself where it is free
abbrev pub room_by : BlockCounts → ℕ → Room
room_by c entries = record {
  index = if (c.data_live == 0) && not (c.free == entries) then c.free else 0;
  pages = if nat_lt 0 c.data_live && (c.index_live == 0) then c.free else 0;
  beside = if nat_lt 0 c.index_live && (c.data_live == 0) then c.free else 0;
  blocks = if c.free == entries then 1 else 0;
}

-- the room of two together
abbrev pub both : Room → Room → Room
both a b = record { index = a.index + b.index; pages = a.pages + b.pages; beside = a.beside + b.beside; blocks = a.blocks + b.blocks }

-- none of a room's numbers is above `most`
pub record AtMost (most : ℕ) (r : Room) : Type 0 where
  pub index : r.index ≤ most
  pub pages : r.pages ≤ most
  pub beside : r.beside ≤ most
  pub blocks : r.blocks ≤ most

-- the room is that of a block of the image
pub record IsRoom (g : Geometry) (image : List ℕ) (block : ℕ) (r : Room) : Type 0 where
  pub index : r.index ≡ (if takes_index g image block then free_in g image block else 0)
  pub pages : r.pages ≡ (if takes_data g image block then free_in g image block else 0)
  pub beside : r.beside ≡ (if holds_index g image block then free_in g image block else 0)
  pub blocks : r.blocks ≡ (if is_free_block g image block then 1 else 0)

-- the room is that of all blocks of the image together
pub record AreTotals (g : Geometry) (image : List ℕ) (r : Room) : Type 0 where
  pub index : r.index ≡ free_where g image (takes_index g image)
  pub pages : r.pages ≡ free_where g image (takes_data g image)
  pub beside : r.beside ≡ free_where g image (holds_index g image)
  pub blocks : r.blocks ≡ free_blocks g image

-- by its counts, the room of all blocks and its own, a block is worth cleaning
abbrev pub worth_by : BlockCounts → Room → Room → Bool
worth_by c all own =
    nat_lt 0 c.deleted
    || (not (nat_lt 0 own.blocks)
    && (if nat_lt 0 c.data_live then nat_le c.data_live (all.pages - own.pages) else nat_le c.index_live (all.beside - own.beside)))

-- by the same, its live pages find places in other blocks
abbrev pub fits_by : Geometry → BlockCounts → Room → Room → Bool
fits_by g c all own =
    nat_le (blocks_for g (if nat_lt 0 c.data_live then c.data_live else c.index_live) (all.index - own.index) c.data_live (all.pages - own.pages)) all.blocks

-- so many pages of each kind are had by the room of all blocks
abbrev pub had_by : Geometry → Room → ℕ → ℕ → Bool
had_by g all index pages = nat_le (blocks_for g index all.index pages all.pages) (all.blocks - 2)
