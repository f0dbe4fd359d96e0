-- Blocks that hold wanted pages of both kinds, and whether a check can part them.
use Rattle.std.specs.Prelude.{◌≡◌, ℕ, ◌<◌, ◌≤◌, ◌⊎◌, true, false, ◌+◌, ◌-◌, ◌*◌, List, length, Bool, not, nat_le, ◌==◌, ◌&&◌, ◌||◌, if◌then◌else◌, filter}
use Rattle.std.specs.Prelude.{sum_by}
use Rattle.std.specs.List.{range_with_len}
use Rattle.geometry.specs.declared.geometry.Geometry.{Geometry}
use Rattle.geometry.specs.Numbers.{entries}
use Rattle.image_model.specs.Places.{has_magic, block_of, is_entry_page, erase_count}
use Rattle.image_model.specs.Live.{live_at}
use Rattle.image_model.specs.Tidy.{is_wanted, is_free_entry, is_free_block, free_blocks}
use Rattle.image_model.specs.Kinds.{is_index_page, is_data_page, spoiled_blocks}
use Rattle.image_model.specs.Collect.{count_in, free_where}

-- a wanted index page, and a wanted data page
abbrev pub is_wanted_index : Geometry → List ℕ → ℕ → Bool
is_wanted_index g image p = is_index_page (live_at g image p) && is_wanted g image p

abbrev pub is_wanted_data : Geometry → List ℕ → ℕ → Bool
is_wanted_data g image p = is_data_page (live_at g image p) && is_wanted g image p

-- the wanted index pages and the wanted data pages of a block
unfoldable pub wanted_index_in : Geometry → List ℕ → ℕ → ℕ
wanted_index_in g image block = count_in g block (λ p. is_wanted_index g image p)

unfoldable pub wanted_data_in : Geometry → List ℕ → ℕ → ℕ
wanted_data_in g image block = count_in g block (λ p. is_wanted_data g image p)

-- A block is shared where it holds wanted pages of both kinds.
unfoldable pub is_shared : Geometry → List ℕ → ℕ → Bool
is_shared g image block = not (wanted_index_in g image block == 0) && not (wanted_data_in g image block == 0)

-- how many blocks are shared
unfoldable pub shared_blocks : Geometry → List ℕ → ℕ
shared_blocks g image = length (filter (λ block. is_shared g image block) (range_with_len 0 g.blocks))

-- the wanted index pages in shared blocks
unfoldable pub shared_index : Geometry → List ℕ → ℕ
shared_index g image = sum_by (λ block. if is_shared g image block then wanted_index_in g image block else 0) (range_with_len 0 g.blocks)

-- the free entries of blocks in use that hold no wanted data page
unfoldable pub open_entries : Geometry → List ℕ → ℕ
open_entries g image = free_where g image (λ block. has_magic g image block && not (is_free_block g image block) && (wanted_data_in g image block == 0))

-- the free blocks, and one more where one block lacks its magic
abbrev pub blocks_to_use : Geometry → List ℕ → ℕ
blocks_to_use g image = free_blocks g image + (if spoiled_blocks g image == 1 then 1 else 0)

-- An image fits over where no block is shared, or the index pages of shared blocks fit the open entries and the free
-- blocks above two.
unfoldable pub fits_over : Geometry → List ℕ → Bool
fits_over g image =
    (shared_blocks g image == 0) || nat_le (shared_index g image) (open_entries g image + (blocks_to_use g image - 2) * entries g)

-- It fits over with so many entries to spare where no block is shared, or the index pages of shared blocks and so many more fit there.
abbrev pub FitsWith : Geometry → List ℕ → (spare : ℕ) → Type 0
FitsWith g image spare =
    (shared_blocks g image ≡ 0) ⊎ (shared_index g image + spare ≤ open_entries g image + (blocks_to_use g image - 2) * entries g)

-- Each page is wanted as before, the free entries of blocks that had their magic are those that were free, and a block without it
-- lacks it still or is free. So both images have the same shared blocks, and the same places.
pub record SameUses (g : Geometry) (was now : List ℕ) : Type 0 where
  pub wanted : (p : ℕ) → is_wanted g now p ≡ is_wanted g was p
  pub kind : (p : ℕ) → is_wanted g was p ≡ true → live_at g now p ≡ live_at g was p
  pub magic : (block : ℕ) → has_magic g was block ≡ true → has_magic g now block ≡ true
  pub free : (p : ℕ) → is_entry_page g p ≡ true → has_magic g was (block_of g p) ≡ true → is_free_entry g now p ≡ is_free_entry g was p
  pub fresh : (block : ℕ) → block < g.blocks → has_magic g was block ≡ false → (has_magic g now block ≡ false) ⊎ (is_free_block g now block ≡ true)

-- each block has the erase count that it had
abbrev pub SameCounts : Geometry → (was now : List ℕ) → Type 0
SameCounts g was now = (block : ℕ) → block < g.blocks → erase_count g now block ≡ erase_count g was block
