-- Images in which a block was cleaned, by all counts.
use Rattle.std.specs.Prelude.{◌≡◌, ℕ, ◌+◌, ◌*◌, ◌<◌, ◌≤◌, List, true, Some}
use Rattle.geometry.specs.declared.geometry.Geometry.{Geometry}
use Rattle.nor_core.specs.Flash.{SameOutside}
use Rattle.geometry.specs.Numbers.{entries}
use Rattle.image_model.specs.Places.{IsImage}
use Rattle.image_model.specs.Tables.{table_of}
use Rattle.image_model.specs.Tidy.{IsTidy, is_free_block}
use Rattle.image_model.specs.Collect.{data_in, deleted_outside, is_worth, chosen_block, Swept}
use Rattle.room_laws.specs.Cleaning.{Cleaned}
use Rattle.room_laws.specs.Mending.{DataStay}
use Rattle.room_laws.specs.Counting.{block_counts, counts_of}
use Rattle.room_laws.specs.Stopping.{CanClean, gc_measure}
use Rattle.room_laws.specs.Mends.{CanMend}
use Rattle.room_laws.specs.Sorts.{sort_at}
use Rattle.room_laws.specs.Recovery.{IsBetween, IsEmptied}

-- The block was cleaned: the image is as tidy as before with the same table, the block is free, its counts are those of a
-- cleaning, the other data blocks stay, and in other blocks at most one entry more is deleted for each data page that it had.
pub record HasCleaned (g : Geometry) (was : List ℕ) (block : ℕ) (now : List ℕ) : Type 0 where
  pub within : block < g.blocks
  pub before : IsTidy g was
  pub image_is : IsImage g now
  pub after : IsTidy g now
  pub table : table_of g now ≡ table_of g was
  pub free : is_free_block g now block ≡ true
  pub cleaned : Cleaned (entries g) (counts_of g was) (block_counts g was block) (counts_of g now)
  pub stay : DataStay (counts_of g was) (block_counts g was block) (counts_of g now)
  pub deleted : deleted_outside g now block ≤ deleted_outside g was block + data_in g was block

-- A block that was emptied and made fresh was cleaned.
abbrev pub EmptiedHasCleaned : Geometry → Type 0
EmptiedHasCleaned g = (first was now : List ℕ) (block : ℕ) → block < g.blocks → IsImage g first → IsTidy g first → IsBetween g first block was →
    IsEmptied g (sort_at g was) block →
    IsImage g now → IsTidy g now → table_of g now ≡ table_of g was → SameOutside (block * g.block) g.block was now → is_free_block g now block ≡ true →
    HasCleaned g first block now

-- What was cleaned can be cleaned again.
abbrev pub HasCleanedCanClean : Geometry → Type 0
HasCleanedCanClean g = (was now : List ℕ) (block : ℕ) → CanClean g was → HasCleaned g was block now → CanClean g now

-- Cleaning a block that was worth it lowers the number that each cleaning lowers.
abbrev pub HasCleanedIsLower : Geometry → Type 0
HasCleanedIsLower g = (was now : List ℕ) (block : ℕ) → HasCleaned g was block now → is_worth g was block ≡ true → gc_measure g now < gc_measure g was

-- An image that mends does so after a cleaning.
abbrev pub HasCleanedMends : Geometry → Type 0
HasCleanedMends g = (was now : List ℕ) (block : ℕ) → CanMend g was → HasCleaned g was block now → CanMend g now

-- A cleaning of the chosen block has swept the image.
abbrev pub HasCleanedIsSwept : Geometry → Type 0
HasCleanedIsSwept g = (was now : List ℕ) (block : ℕ) → chosen_block g was ≡ Some block → HasCleaned g was block now → Swept g was now
