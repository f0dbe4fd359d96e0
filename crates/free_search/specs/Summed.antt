-- What all blocks of an image add up to.
use Rattle.std.specs.Prelude.{◌≡◌, ℕ, ◌+◌, ◌-◌, ◌*◌, List, sum_by}
use Rattle.std.specs.List.{range_with_len}
use Rattle.geometry.specs.declared.geometry.Geometry.{Geometry}
use Rattle.geometry.specs.Numbers.{usable, entries}
use Rattle.image_model.specs.Tidy.{free_blocks}
use Rattle.image_model.specs.Collect.{index_in, data_in, free_in, deleted_in, free_where, takes_index, takes_data, holds_index}
use Rattle.flash_view.specs.declared.sums.Sums.{Sums}

-- what the blocks of a volume add up to
abbrev pub in_blocks : Geometry → (ℕ → ℕ) → ℕ
in_blocks g count = sum_by count (range_with_len 0 g.blocks)

-- The sums are those of the blocks of the image. Entries that none of them counts are deleted.
pub record AreSumsOf (g : Geometry) (image : List ℕ) (s : Sums) : Type 0 where
  pub index_live : s.index_live ≡ in_blocks g (λ block. index_in g image block)
  pub data_live : s.data_live ≡ in_blocks g (λ block. data_in g image block)
  pub free : s.free ≡ in_blocks g (λ block. free_in g image block)
  pub blocks : s.blocks ≡ free_blocks g image
  pub for_index : s.for_index ≡ free_where g image (takes_index g image)
  pub for_data : s.for_data ≡ free_where g image (takes_data g image)
  pub beside : s.beside ≡ free_where g image (holds_index g image)
  pub deleted : in_blocks g (λ block. deleted_in g image block) ≡ usable g - (s.index_live + s.data_live + s.free)
