-- How many pages of each kind are live.
use Rattle.std.specs.Prelude.{◌≡◌, ℕ, List}
use Rattle.geometry.specs.declared.geometry.Geometry.{Geometry}
use Rattle.image_model.specs.Kinds.{live_index, live_data}
use Rattle.image_model.specs.Tables.{table_of}
use Rattle.image_model.specs.Tidy.{IsTidy}
use Rattle.table_model.specs.Room.{index_count, data_count}
use Rattle.image_model.specs.Places.{IsImage}

-- A tidy image has as many live pages of each kind as the files of its table need.
abbrev pub TidyCounts : Geometry → Type 0
TidyCounts g = (a : List ℕ) → IsImage g a → IsTidy g a → (live_index g a ≡ index_count g (table_of g a)) × (live_data g a ≡ data_count g (table_of g a))
