-- How many pages of each sort are live, and how many blocks are free.
use Rattle.std.specs.Prelude.{◌≡◌, ℕ, ◌+◌, List, ◌==◌, Option, Some, None, if◌then◌else◌}
use Rattle.geometry.specs.declared.geometry.Geometry.{Geometry}
use Rattle.page_layout.specs.declared.header.PageHeader.{PageHeader}
use Rattle.page_layout.specs.Layout.{names_index}
use Rattle.image_model.specs.Kinds.{live_index, live_data}
use Rattle.image_model.specs.Tidy.{free_blocks}
use Rattle.header_laws.specs.Sums.{live_heads}
use Rattle.file_calls.specs.declared.live_pages.LivePages.{LivePages}
use Rattle.file_calls.specs.declared.room.PageCounts.{PageCounts}

-- the counts with an index page more, of span 0 or not, and with a data page more
abbrev pub one_index : PageCounts → ℕ → PageCounts
one_index c span = if span == 0 then record { heads = c.heads + 1; index_pages = c.index_pages + 1; data_pages = c.data_pages }
    else record { heads = c.heads; index_pages = c.index_pages + 1; data_pages = c.data_pages }

abbrev pub one_data : PageCounts → PageCounts
one_data c = record { heads = c.heads; index_pages = c.index_pages; data_pages = c.data_pages + 1 }

-- the counts with a page more, where it is live
abbrev pub with_page : PageCounts → Option PageHeader → PageCounts
with_page c None = c
with_page c (Some head) = if names_index head then one_index c head.span else one_data c

-- the counts are those of the image
pub record AreLive (g : Geometry) (image : List ℕ) (c : PageCounts) : Type 0 where
  pub heads : c.heads ≡ live_heads g image
  pub index : c.index_pages ≡ live_index g image
  pub pages : c.data_pages ≡ live_data g image

-- the sums of the counts of all blocks are what the image holds
pub record AreSums (g : Geometry) (image : List ℕ) (c : LivePages) : Type 0 where
  pub index : c.index_pages ≡ live_index g image
  pub pages : c.data_pages ≡ live_data g image
  pub free : c.free_blocks ≡ free_blocks g image
