-- Which index page names the data page of a span, and where.
use Rattle.std.specs.Prelude.{ℕ, List, Option}
use Rattle.geometry.specs.declared.geometry.Geometry.{Geometry}
use Rattle.nor_core.specs.Flash.{word_at}
use Rattle.image_model.specs.Places.{page_of}
use Rattle.image_model.specs.Live.{live_at, own}
use Rattle.image_model.specs.Files.{data_of, slot_at}

-- the data page of a span that this index page names
unfoldable pub named_page : Geometry → List ℕ → ℕ → ℕ → ℕ → Option (List ℕ)
named_page g image id index span = data_of (own (live_at g image) id (word_at (page_of g image index) (slot_at g span))) span
