-- The copy of a data page with bytes in their place, and where a data page is found.
use Rattle.std.specs.Prelude.{◌≡◌, ℕ, ◌+◌, ◌-◌, ◌*◌, ◌/◌, ◌%◌, ◌<◌, ◌≤◌, List, Option, Some, None, true, length, min, take, slice_index}
use Rattle.geometry.specs.declared.geometry.Geometry.{Geometry}
use Rattle.geometry.specs.Numbers.{body, page_count}
use Rattle.image_model.specs.Live.{live_at, own}
use Rattle.image_model.specs.Files.{index_page, index_span}
use Rattle.image_model.specs.Places.{page_of, is_entry_page}
use Rattle.flash_view.specs.DataPages.{data_number_of}
use Rattle.file_write.specs.declared.relinking.Patch.{Patch}
use Rattle.file_write.specs.declared.relinking.Spot.{Spot}

-- The file bytes of a page are those of another with bytes in their place, and 0xFF behind the first `used` ones; its header is the same.
pub record IsPatchedPage (from used : ℕ) (bytes old new : List ℕ) : Type 0 where
  pub size : length new ≡ length old
  pub head : (k : ℕ) → k < 5 → slice_index new k ≡ slice_index old k
  pub inside : (k : ℕ) → k < length bytes → slice_index new (5 + from + k) ≡ slice_index bytes k
  pub before : (k : ℕ) → k < from → k < used → slice_index new (5 + k) ≡ slice_index old (5 + k)
  pub after : (k : ℕ) → from + length bytes ≤ k → k < used → slice_index new (5 + k) ≡ slice_index old (5 + k)
  pub erased : (k : ℕ) → used ≤ k → 5 + k < length old → slice_index new (5 + k) ≡ 0xFF

-- The first bytes for work are such a copy of a page of the image, and they and the page's flags are bytes.
pub record IsPatchedCopy (g : Geometry) (image : List ℕ) (page from used : ℕ) (bytes work : List ℕ) : Type 0 where
  pub patched : IsPatchedPage from used bytes (page_of g image page) (take g.page work)
  pub small : (k : ℕ) → slice_index (take g.page work) k < 256
  pub flags : slice_index image (page * g.page + 4) < 256

-- both pages, or none where one of them is missing or no entry page
abbrev pub IsSpotOf : Geometry → (number index : Option ℕ) → Option Spot → Type 0
IsSpotOf g number index None = (q w : ℕ) → number ≡ Some q → index ≡ Some w → q < page_count g → is_entry_page g q ≡ true → is_entry_page g w ≡ true → ⊥
IsSpotOf g number index (Some spot) = (number ≡ Some spot.page) × (index ≡ Some spot.index)

-- those of a span of a file
abbrev pub IsSpot : Geometry → (image : List ℕ) (id span : ℕ) → Option Spot → Type 0
IsSpot g image id span found = IsSpotOf g (data_number_of g image id span) (index_page g (own (live_at g image) id) (index_span g span)) found

-- what changes where so many bytes begin at a place of a file of that size, or none where they don't end in their page or end behind the file's end
abbrev pub IsPatchAt : Geometry → (size at len : ℕ) → Option Patch → Type 0
IsPatchAt g size at len None = at / body g ≤ 0xFFFF → at % body g + len ≤ body g → at + len ≤ size → ⊥
IsPatchAt g size at len (Some p) = (p.span ≡ at / body g) × (p.from ≡ at % body g) × (p.used ≡ min (size - (at - at % body g)) (body g))
