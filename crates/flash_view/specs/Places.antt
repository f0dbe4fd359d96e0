-- Where pages and entries stand on the device.
use Rattle.std.specs.Prelude.{ℕ, ◌+◌, ◌-◌, ◌*◌, ◌<◌, ◌≤◌, List, slice_index}
use Rattle.geometry.specs.declared.geometry.Geometry.{Geometry}
use Rattle.geometry.specs.Numbers.{lookups, page_count, slots}
use Rattle.image_model.specs.Places.{place_of}

-- a page of the volume that is no lookup page
pub record IsEntryPage (g : Geometry) (page : ℕ) : Type 0 where
  pub below : page < page_count g
  pub behind : lookups g ≤ place_of g page

-- the first byte of a page
abbrev pub page_start : Geometry → ℕ → ℕ
page_start g page = page * g.page

-- the first byte of a slot of a block's lookup pages
abbrev pub slot_start : Geometry → ℕ → ℕ → ℕ
slot_start g block slot = block * g.block + 2 * slot

-- the first bytes of a block's magic and erase count: the last two slots
abbrev pub magic_start : Geometry → ℕ → ℕ
magic_start g block = slot_start g block (slots g - 2)

abbrev pub count_start : Geometry → ℕ → ℕ
count_start g block = slot_start g block (slots g - 1)

-- the two bytes at a place are below 256: one word alone stands for them
pub record IsWordAt (image : List ℕ) (at : ℕ) : Type 0 where
  pub low : slice_index image at < 256
  pub high : slice_index image (at + 1) < 256
