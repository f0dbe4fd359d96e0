-- Which blocks garbage collection cleans, and when it may stop.
use Rattle.std.specs.Prelude.{◌≡◌, ℕ, ◌+◌, ◌-◌, ◌*◌, ◌%◌, ◌≤◌, List, length, Bool, true, not, nat_lt, nat_le, ◌==◌, ◌&&◌, ◌||◌, Option, Some, is_none}
use Rattle.std.specs.Prelude.{if◌then◌else◌, filter, find, sum_by, ℤ, pos, ◌-ℤ◌, int_le}
use Rattle.std.specs.List.{range_with_len, list_any, list_all}
use Rattle.geometry.specs.declared.geometry.Geometry.{Geometry}
use Rattle.geometry.specs.Numbers.{ceil, per_block, lookups, entries}
use Rattle.image_model.specs.Places.{has_magic, entry_of, erase_count, next_count}
use Rattle.image_model.specs.Live.{live_at}
use Rattle.image_model.specs.Tables.{table_of}
use Rattle.image_model.specs.Tidy.{IsTidy, is_free_entry, is_free_block, free_blocks}
use Rattle.image_model.specs.Kinds.{is_index_page, is_data_page, is_index_block, is_data_block}

-- how many entry pages of a block pass a test
abbrev pub count_in : Geometry → ℕ → (ℕ → Bool) → ℕ
count_in g block test = length (filter test (range_with_len (block * per_block g + lookups g) (entries g)))

-- an entry that isn't 0xFFFF, whose page isn't live
abbrev pub is_deleted_entry : Geometry → List ℕ → ℕ → Bool
is_deleted_entry g image p = not (entry_of g image p == 0xFFFF) && is_none (live_at g image p)

-- the live index pages, the live data pages, the deleted entries and the free entries of a block
unfoldable pub index_in : Geometry → List ℕ → ℕ → ℕ
index_in g image block = count_in g block (λ p. is_index_page (live_at g image p))

unfoldable pub data_in : Geometry → List ℕ → ℕ → ℕ
data_in g image block = count_in g block (λ p. is_data_page (live_at g image p))

unfoldable pub deleted_in : Geometry → List ℕ → ℕ → ℕ
deleted_in g image block = count_in g block (λ p. is_deleted_entry g image p)

unfoldable pub free_in : Geometry → List ℕ → ℕ → ℕ
free_in g image block = count_in g block (λ p. is_free_entry g image p)

-- Free entries of a block are for index pages where it has its magic, isn't free, and holds no live data page.
unfoldable pub takes_index : Geometry → List ℕ → ℕ → Bool
takes_index g image block = has_magic g image block && not (is_free_block g image block) && not (is_data_block g image block)

-- They are for data pages where it holds a live data page and no live index page.
unfoldable pub takes_data : Geometry → List ℕ → ℕ → Bool
takes_data g image block = is_data_block g image block && not (is_index_block g image block)

-- the block holds a live index page and no live data page
unfoldable pub holds_index : Geometry → List ℕ → ℕ → Bool
holds_index g image block = is_index_block g image block && not (is_data_block g image block)

-- the free entries of all blocks that pass a test
unfoldable pub free_where : Geometry → List ℕ → (ℕ → Bool) → ℕ
free_where g image test = sum_by (λ block. if test block then free_in g image block else 0) (range_with_len 0 g.blocks)

-- those outside a block
abbrev pub free_outside : Geometry → List ℕ → ℕ → (ℕ → Bool) → ℕ
free_outside g image block test = free_where g image (λ other. not (other == block) && test other)

-- A block is worth cleaning where it has a deleted entry, or where it isn't free and its live pages are at most the free
-- entries of other blocks that hold pages of its kind and none of the other.
unfoldable pub is_worth : Geometry → List ℕ → ℕ → Bool
is_worth g image block =
    nat_lt 0 (deleted_in g image block)
    || (not (is_free_block g image block)
    && (if is_data_block g image block then nat_le (data_in g image block) (free_outside g image block (takes_data g image))
    else nat_le (index_in g image block) (free_outside g image block (holds_index g image))))

-- the free blocks that so many pages of each kind need beside the free entries of their kinds, where each serves one kind
abbrev pub blocks_for : Geometry → (index index_free pages pages_free : ℕ) → ℕ
blocks_for g index index_free pages pages_free = ceil (index - index_free) (entries g) + ceil (pages - pages_free) (entries g)

-- A block fits where its live pages find places of their kind in other blocks. For a data block as many index pages as it
-- has live pages find places too, at the same time.
unfoldable pub is_fitting : Geometry → List ℕ → ℕ → Bool
is_fitting g image block =
    let index = if is_data_block g image block then data_in g image block else index_in g image block in
    nat_le (blocks_for g index (free_outside g image block (takes_index g image)) (data_in g image block) (free_outside g image block (takes_data g image)))
    (free_blocks g image)

-- how many counts behind the next one a block's erase count is
abbrev pub age_of : Geometry → List ℕ → ℕ → ℕ
age_of g image block = (next_count g image + 0x8000 - erase_count g image block) % 0x8000

-- The score of a block rises with its deleted entries and its age, and falls with its live pages.
unfoldable pub score : Geometry → List ℕ → ℕ → ℤ
score g image block = pos (5 * deleted_in g image block + 50 * age_of g image block) -ℤ pos (index_in g image block + data_in g image block)

-- the blocks that are worth cleaning and fit
unfoldable pub candidates : Geometry → List ℕ → List ℕ
candidates g image = filter (λ block. is_worth g image block && is_fitting g image block) (range_with_len 0 g.blocks)

-- those of them without live data pages, where fewer than two blocks are free and there are such; else all of them
unfoldable pub first_candidates : Geometry → List ℕ → List ℕ
first_candidates g image =
    if nat_lt (free_blocks g image) 2 && list_any (λ block. not (is_data_block g image block)) (candidates g image)
    then filter (λ block. not (is_data_block g image block)) (candidates g image) else candidates g image

-- the first of some blocks that has their greatest score
abbrev pub best_of : Geometry → List ℕ → List ℕ → Option ℕ
best_of g image blocks = find (λ block. list_all (λ other. int_le (score g image other) (score g image block)) blocks) blocks

-- the block that is cleaned next
unfoldable pub chosen_block : Geometry → List ℕ → Option ℕ
chosen_block g image = best_of g image (first_candidates g image)

-- Wanted pages are had where the free blocks above two hold those that the free entries of their kinds don't.
unfoldable pub are_had : Geometry → List ℕ → (index pages : ℕ) → Bool
are_had g image index pages =
    nat_le (blocks_for g index (free_where g image (takes_index g image)) pages (free_where g image (takes_data g image))) (free_blocks g image - 2)

-- Collection is stuck where fewer than two blocks are free, a block is worth cleaning, and none of these fits.
unfoldable pub is_stuck : Geometry → List ℕ → Bool
is_stuck g image =
    nat_lt (free_blocks g image) 2 && list_any (λ block. is_worth g image block) (range_with_len 0 g.blocks)
    && not (list_any (λ block. is_worth g image block && is_fitting g image block) (range_with_len 0 g.blocks))

-- the deleted entries of all blocks but one
unfoldable pub deleted_outside : Geometry → List ℕ → ℕ → ℕ
deleted_outside g image block = sum_by (λ other. if other == block then 0 else deleted_in g image other) (range_with_len 0 g.blocks)

-- What one cleaning leaves: tidy as before with the same table, the chosen block is free, and the other blocks have at
-- most so many more deleted entries as it had live data pages.
pub record Swept (g : Geometry) (a b : List ℕ) : Type 0 where
  pub block : ℕ
  pub chosen : chosen_block g a ≡ Some block
  pub tidy_before : IsTidy g a
  pub tidy_after : IsTidy g b
  pub table : table_of g b ≡ table_of g a
  pub free : is_free_block g b block ≡ true
  pub deleted : deleted_outside g b block ≤ deleted_outside g a block + data_in g a block
