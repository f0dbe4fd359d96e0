-- Files that have all their data pages.
use Rattle.std.specs.Prelude.{ℕ, ◌≡◌, ◌%◌, ◌⊎◌, List, Bool, is_none}
use Rattle.geometry.specs.declared.geometry.Geometry.{Geometry}
use Rattle.image_model.specs.Places.{page_of}
use Rattle.image_model.specs.Headers.{obj_id}
use Rattle.image_model.specs.Live.{Live, live_at, own}
use Rattle.image_model.specs.Files.{index_page, first_missing}
use Rattle.meta_tally.specs.declared.wholes.Known.{Known}

-- What is known of an index page is right, or nothing is known: no data span stands in an index page of span 0.
pub record IsKnown (g : Geometry) (pages : Live) (known : Known) : Type 0 where
  pub page : (known.span ≡ 0) ⊎ (known.page ≡ index_page g pages known.span)

-- each span below the size of the file with this header page has its data page
unfoldable pub is_complete_at : Geometry → List ℕ → ℕ → Bool
is_complete_at g image p = is_none (first_missing g (own (live_at g image) (obj_id (page_of g image p) % 0x8000)) (page_of g image p))
