-- Blocks by what they hold.
use Rattle.std.specs.Prelude.{◌≡◌, ℕ, ◌+◌, ◌*◌, ◌≤◌, List}
use Rattle.geometry.specs.declared.geometry.Geometry.{Geometry}
use Rattle.image_model.specs.Kinds.{data_blocks, other_blocks}
use Rattle.geometry.specs.Numbers.{entries, ceil}
use Rattle.image_model.specs.Tables.{table_of}
use Rattle.image_model.specs.Tidy.{IsTidy, free_blocks}
use Rattle.table_model.specs.Room.{index_count}
use Rattle.image_model.specs.Places.{IsImage}
use Rattle.image_model.specs.Kinds.{live_index, live_data}

-- The blocks of any image are of three kinds, and data pages lie in data blocks.
abbrev pub BlocksSplit : Geometry → Type 0
BlocksSplit g = (a : List ℕ) → IsImage g a → (free_blocks g a + data_blocks g a + other_blocks g a ≡ g.blocks) × (live_data g a ≤ data_blocks g a * entries g)

-- Index pages of a tidy image lie in the others.
abbrev pub IndexInOthers : Geometry → Type 0
IndexInOthers g = (a : List ℕ) → IsImage g a → IsTidy g a → live_index g a ≤ other_blocks g a * entries g

-- A tidy image with its reserve could hold its index pages in what data blocks and two more leave.
abbrev pub ReserveRoom : Geometry → Type 0
ReserveRoom g = (a : List ℕ) → IsImage g a → IsTidy g a → 2 ≤ free_blocks g a → ceil (index_count g (table_of g a)) (entries g) + data_blocks g a + 2 ≤ g.blocks
