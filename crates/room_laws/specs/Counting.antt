-- The counts of an image, and what they tell of it.
use Rattle.std.specs.Prelude.{◌≡◌, ℕ, ◌<◌, ◌↔◌, List, length, Bool, true, not, map, sum_by, if◌then◌else◌}
use Rattle.std.specs.List.{range_with_len}
use Rattle.geometry.specs.declared.geometry.Geometry.{Geometry}
use Rattle.geometry.specs.Numbers.{entries}
use Rattle.image_model.specs.Tidy.{IsTidy, free_blocks}
use Rattle.image_model.specs.Kinds.{live_index, live_data, is_data_block, data_blocks, other_blocks}
use Rattle.image_model.specs.Collect.{index_in, data_in, deleted_in, free_in, free_where, takes_index, takes_data, holds_index, is_worth, is_fitting, are_had}
use Rattle.room_laws.specs.Counts.{Counts, unused, for_index, for_data}
use Rattle.room_laws.specs.Volume.{IsVolume, blocks_of, free_of, deleted_of, index_total, pages_total, free_beside, Worth, Fits, Had}

-- the counts of a block of an image
unfoldable pub block_counts : Geometry → List ℕ → ℕ → Counts
block_counts g image block =
    record { index = index_in g image block; pages = data_in g image block; deleted = deleted_in g image block; free = free_in g image block }

-- the counts of all its blocks in order
unfoldable pub counts_of : Geometry → List ℕ → List Counts
counts_of g image = map (block_counts g image) (range_with_len 0 g.blocks)

-- the deleted entries of all blocks that pass a test
unfoldable pub deleted_where : Geometry → List ℕ → (ℕ → Bool) → ℕ
deleted_where g image test = sum_by (λ block. if test block then deleted_in g image block else 0) (range_with_len 0 g.blocks)

-- the deleted entries of data blocks, and those of all others
abbrev pub deleted_for_data : Geometry → List ℕ → ℕ
deleted_for_data g image = deleted_where g image (λ block. is_data_block g image block)

abbrev pub deleted_for_index : Geometry → List ℕ → ℕ
deleted_for_index g image = deleted_where g image (λ block. not (is_data_block g image block))

-- The counts add up to what the image holds.
pub record CountsTell (g : Geometry) (image : List ℕ) : Type 0 where
  pub blocks : length (counts_of g image) ≡ g.blocks
  pub index : index_total (counts_of g image) ≡ live_index g image
  pub pages : pages_total (counts_of g image) ≡ live_data g image
  pub unused_blocks : blocks_of unused (counts_of g image) ≡ free_blocks g image
  pub index_blocks : blocks_of for_index (counts_of g image) ≡ other_blocks g image
  pub data_blocks_are : blocks_of for_data (counts_of g image) ≡ data_blocks g image
  pub index_free : free_of for_index (counts_of g image) ≡ free_where g image (takes_index g image)
  pub data_free : free_of for_data (counts_of g image) ≡ free_where g image (takes_data g image)
  pub beside : free_beside (counts_of g image) ≡ free_where g image (holds_index g image)
  pub index_deleted : deleted_of for_index (counts_of g image) ≡ deleted_for_index g image
  pub data_deleted : deleted_of for_data (counts_of g image) ≡ deleted_for_data g image

-- The counts of a tidy image are those of a volume.
abbrev pub TidyIsVolume : Geometry → Type 0
TidyIsVolume g = (image : List ℕ) → IsTidy g image → IsVolume (entries g) (counts_of g image)

-- The counts of a tidy image add up to what it holds.
abbrev pub TidyCountsTell : Geometry → Type 0
TidyCountsTell g = (image : List ℕ) → IsTidy g image → CountsTell g image

-- By the counts of a tidy image exactly those blocks are worth cleaning that the test finds.
abbrev pub WorthIsTested : Geometry → Type 0
WorthIsTested g = (image : List ℕ) (block : ℕ) → IsTidy g image → block < g.blocks →
    (is_worth g image block ≡ true) ↔ Worth (counts_of g image) (block_counts g image block)

-- By the counts of a tidy image exactly those blocks fit that the test finds.
abbrev pub FitsIsTested : Geometry → Type 0
FitsIsTested g = (image : List ℕ) (block : ℕ) → IsTidy g image → block < g.blocks →
    (is_fitting g image block ≡ true) ↔ Fits (entries g) (counts_of g image) (block_counts g image block)

-- By the counts of a tidy image pages are had exactly where the test says so.
abbrev pub HadIsTested : Geometry → Type 0
HadIsTested g = (image : List ℕ) (i d : ℕ) → IsTidy g image → (are_had g image i d ≡ true) ↔ Had (entries g) (counts_of g image) i d
