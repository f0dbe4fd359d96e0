-- What is free in a volume.
use Rattle.std.specs.Prelude.{◌≡◌, ℕ, ◌+◌, ◌≤◌, List, ◌==◌, sum_by, if◌then◌else◌}
use Rattle.std.specs.List.{range_with_len}
use Rattle.geometry.specs.declared.geometry.Geometry.{Geometry}
use Rattle.image_model.specs.Tidy.{free_blocks}
use Rattle.image_model.specs.Collect.{free_in, deleted_in}
use Rattle.flash_view.specs.declared.counts.BlockCounts.{BlockCounts}
use Rattle.file_calls.specs.declared.space.Space.{Space}

-- what the blocks of a volume add up to
abbrev pub in_all : Geometry → (ℕ → ℕ) → ℕ
in_all g count = sum_by count (range_with_len 0 g.blocks)

-- The numbers are those of an image: its free blocks, and the free entries and the deleted entries of all its blocks.
pub record IsSpace (g : Geometry) (image : List ℕ) (space : Space) : Type 0 where
  pub blocks : space.free_blocks ≡ free_blocks g image
  pub free : space.free_pages ≡ in_all g (λ block. free_in g image block)
  pub deleted : space.deleted_pages ≡ in_all g (λ block. deleted_in g image block)

-- the numbers with those of a block more, by the counts of its entries
abbrev pub with_block : Space → BlockCounts → (entries : ℕ) → Space
with_block space c entries = record {
  free_blocks = space.free_blocks + (if c.free == entries then 1 else 0);
  free_pages = space.free_pages + c.free;
  deleted_pages = space.deleted_pages + c.deleted;
}

-- none of the numbers is above `most`
pub record IsWithin (most : ℕ) (space : Space) : Type 0 where
  pub blocks : space.free_blocks ≤ most
  pub free : space.free_pages ≤ most
  pub deleted : space.deleted_pages ≤ most
