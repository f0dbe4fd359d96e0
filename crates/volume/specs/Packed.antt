-- Where garbage collection stops that is done.
use Rattle.std.specs.Prelude.{◌≡◌, ℕ, ◌+◌, ◌<◌, List, false}
use Rattle.geometry.specs.declared.geometry.Geometry.{Geometry}
use Rattle.geometry.specs.Numbers.{ceil, entries}
use Rattle.table_model.specs.Room.{index_count, data_count}
use Rattle.image_model.specs.Tables.{table_of}
use Rattle.image_model.specs.Tidy.{free_blocks}
use Rattle.image_model.specs.Collect.{is_worth, is_stuck}
use Rattle.room_laws.specs.Stopping.{IsPacked}

-- No block is worth cleaning, and all blocks are free but those that the pages of each kind need.
pub record IsPackedNow (g : Geometry) (image : List ℕ) : Type 0 where
  pub worth : (block : ℕ) → block < g.blocks → is_worth g image block ≡ false
  pub packed : IsPacked g image
  pub free : free_blocks g image + ceil (index_count g (table_of g image)) (entries g) + ceil (data_count g (table_of g image)) (entries g) ≡ g.blocks
  pub unstuck : is_stuck g image ≡ false
