-- Ids that are noted by bits as their header pages are passed.
use Rattle.std.specs.Prelude.{◌≡◌, ◌≢◌, ℕ, ◌+◌, ◌%◌, ◌<◌, List, Bool, true, ◌==◌, Option, Some, None, if◌then◌else◌}
use Rattle.std.specs.Option.{option_map}
use Rattle.geometry.specs.declared.geometry.Geometry.{Geometry}
use Rattle.page_layout.specs.declared.header.PageHeader.{PageHeader}
use Rattle.page_layout.specs.Ids.{bit_of}
use Rattle.page_layout.specs.Layout.{header_at, names_index}
use Rattle.image_model.specs.Live.{live_at}
use Rattle.flash_view.specs.Found.{headed}
use Rattle.vol_check.specs.Culls.{is_doubled}

-- Page p is a live index page with this header.
pub record IsIndexPage (g : Geometry) (image : List ℕ) (p : ℕ) (head : PageHeader) : Type 0 where
  pub is : Some head ≡ option_map header_at (live_at g image p)
  pub index : names_index head ≡ true

-- Those ids are noted that have a live header page before page n.
pub record Notes (g : Geometry) (image : List ℕ) (n : ℕ) (bits : List ℕ) : Type 0 where
  pub noted : (id h : ℕ) → h < n → headed (live_at g image h) ≡ Some id → bit_of bits id ≡ 1
  pub only : (id : ℕ) → bit_of bits id ≡ 1 → (h : ℕ) × (h < n) × (headed (live_at g image h) ≡ Some id)

-- An id was noted, and the other bits are as they were.
pub record NotesId (id : ℕ) (was now : List ℕ) : Type 0 where
  pub noted : bit_of now id ≡ 1
  pub others : (k : ℕ) → k ≢ id → bit_of now k ≡ bit_of was k

-- the id of a header page was noted, and whether it was before; or nothing, for a further index page
abbrev pub NotesHeader : PageHeader → Option Bool → List ℕ → List ℕ → Type 0
NotesHeader head None was now = (now ≡ was) × (head.span ≢ 0)
NotesHeader head (Some before) was now = (head.span ≡ 0) × (before ≡ (bit_of was (head.id % 0x8000) == 1)) × NotesId (head.id % 0x8000) was now

-- Whether page p is doubled; its id is noted if it is a header page that isn't.
pub record TellsDoubled (g : Geometry) (image : List ℕ) (p : ℕ) (doubled : Bool) (bits : List ℕ) : Type 0 where
  pub is : doubled ≡ is_doubled g image p
  pub noted : Notes g image (if doubled then p else p + 1) bits
