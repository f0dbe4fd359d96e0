-- Live pages. All that follows depends on an image only through them, as a function of page numbers.
use Rattle.std.specs.Prelude.{ℕ, ◌%◌, List, Bool, ◌==◌, ◌&&◌, Option, Some, None, if◌then◌else◌, option_and_then}
use Rattle.geometry.specs.declared.geometry.Geometry.{Geometry}
use Rattle.image_model.specs.Places.{page_of, block_of, entry_of, is_entry_page, has_magic}
use Rattle.image_model.specs.Headers.{obj_id, is_finished}

-- A page is live where it is no lookup page, its block has its magic, its entry is its object id, and it says so itself.
unfoldable pub is_live : Geometry → List ℕ → ℕ → Bool
is_live g image p =
    is_entry_page g p && has_magic g image (block_of g p)
    && (entry_of g image p == obj_id (page_of g image p)) && is_finished (page_of g image p)

-- pages by their numbers: the bytes of each that is live
abbrev pub Live : Type 0
Live = ℕ → Option (List ℕ)

-- the live pages of an image
unfoldable pub live_at : Geometry → List ℕ → Live
live_at g image p = if is_live g image p then Some (page_of g image p) else None

-- those of one object id
unfoldable pub own : Live → ℕ → Live
own live id p = option_and_then (λ page. if obj_id page % 0x8000 == id then Some page else None) (live p)
