-- Pages of a file that are to go, and their kills.
use Rattle.std.specs.Prelude.{◌≡◌, ℕ, List, Bool, false, nat_le, if◌then◌else◌, Some}
use Rattle.std.specs.Option.{option_map}
use Rattle.geometry.specs.declared.geometry.Geometry.{Geometry}
use Rattle.page_layout.specs.declared.header.PageHeader.{PageHeader}
use Rattle.page_layout.specs.Layout.{header_at, names_index}
use Rattle.image_model.specs.Live.{live_at, own}
use Rattle.image_model.specs.Sound.{KeepsAll}
use Rattle.image_model.specs.Tidy.{IsTidy}
use Rattle.renew_laws.specs.Idles.{Idles}
use Rattle.trim_laws.specs.Wear.{SameWear}
use Rattle.flash_view.specs.Steps.{Step}
use Rattle.page_renew.specs.EditLaws.{past_of}
use Rattle.file_drop.specs.declared.pages.Kept.{Kept}

-- no page is kept
abbrev pub none_kept : Kept
none_kept = record { index_pages = 0; data_pages = 0 }

-- page p is a live page of the id that isn't among those that are kept
abbrev pub is_left : Geometry → List ℕ → ℕ → Kept → ℕ → Bool
is_left g image id kept p = past_of kept.index_pages kept.data_pages (own (live_at g image) id p)

-- a page with this header isn't among them
abbrev pub is_past_header : Kept → PageHeader → Bool
is_past_header kept head = if names_index head then nat_le kept.index_pages head.span else nat_le kept.data_pages head.span

-- The image is tidy but for such pages, which are not needed.
abbrev pub HasLeft : Geometry → ℕ → Kept → List ℕ → Type 0
HasLeft g id kept image = Idles g (λ p. is_left g image id kept p) image

-- A kill of such pages keeps all files and free blocks at each cut, and makes no block fresh.
pub record DropCut (g : Geometry) (was image : List ℕ) : Type 0 where
  pub all : KeepsAll g was image
  pub wear : SameWear g was image

-- After a turn at page p that is no such page, and no other page is one that wasn't.
pub record DropsPage (g : Geometry) (id : ℕ) (kept : Kept) (p : ℕ) (was now : List ℕ) : Type 0 where
  pub keeps : DropCut g was now
  pub left : HasLeft g id kept now
  pub gone : is_left g now id kept p ≡ false
  pub others : (q : ℕ) → is_left g was id kept q ≡ false → is_left g now id kept q ≡ false

-- After all turns the image is tidy.
pub record DropsPages (g : Geometry) (was now : List ℕ) : Type 0 where
  pub keeps : DropCut g was now
  pub tidy : IsTidy g now

-- ---- the steps: a turn at page p, which is live with a header, and all turns

abbrev pub dropping : ℕ → Kept → ℕ → PageHeader → Step (Unit {0})
dropping id kept p head = record {
  needs = λ g was. HasLeft g id kept was × (Some head ≡ option_map header_at (live_at g was p));
  cut = λ g was image. DropCut g was image;
  done = λ g was now ok. DropsPage g id kept p was now;
}

abbrev pub dropping_all : ℕ → Kept → Step (Unit {0})
dropping_all id kept = record { needs = λ g was. HasLeft g id kept was; cut = λ g was image. DropCut g was image; done = λ g was now ok. DropsPages g was now }
