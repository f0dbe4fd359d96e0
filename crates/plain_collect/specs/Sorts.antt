-- Kinds of blocks, by their names in the code.
use Rattle.std.specs.Prelude.{ℕ, List, Bool}
use Rattle.geometry.specs.declared.geometry.Geometry.{Geometry}
use Rattle.image_model.specs.Collect.{takes_index, takes_data, holds_index}
use Rattle.plain_collect.specs.declared.places.BlockKind.{BlockKind}
use Rattle.plain_collect.specs.declared.places.BlockKind.TheVariants.{TakesIndex, TakesData, HoldsIndex}

-- the block is of that kind
abbrev pub is_of : Geometry → List ℕ → BlockKind → ℕ → Bool
is_of g image TakesIndex block = takes_index g image block
is_of g image TakesData block = takes_data g image block
is_of g image HoldsIndex block = holds_index g image block
