-- Wanted pages of one kind.
use Rattle.std.specs.Prelude.{ℕ, List, Bool, ◌&&◌, if◌then◌else◌}
use Rattle.geometry.specs.declared.geometry.Geometry.{Geometry}
use Rattle.image_model.specs.Live.{live_at}
use Rattle.image_model.specs.Tidy.{is_wanted}
use Rattle.image_model.specs.Kinds.{is_index_page, is_data_page}

-- a wanted index page, or a wanted data page
abbrev pub is_wanted_of : Geometry → List ℕ → Bool → ℕ → Bool
is_wanted_of g image index p = (if index then is_index_page (live_at g image p) else is_data_page (live_at g image p)) && is_wanted g image p
