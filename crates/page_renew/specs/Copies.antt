-- The copy of an index page.
use Rattle.std.specs.Prelude.{◌≡◌, ℕ, ◌+◌, ◌-◌, ◌*◌, ◌%◌, ◌<◌, ◌≤◌, ◌⊎◌, List, Option, Some, None, length, min, slice_index, ◌==◌, if◌then◌else◌}
use Rattle.std.specs.Prelude.{option_and_then}
use Rattle.geometry.specs.declared.geometry.Geometry.{Geometry}
use Rattle.geometry.specs.Numbers.{head_slots, span_slots}
use Rattle.table_model.specs.Room.{data_pages}
use Rattle.page_layout.specs.Layout.{slot_place, name_field, padded}
use Rattle.image_model.specs.Headers.{name_of, obj_id, span_of, size_of}
use Rattle.image_model.specs.Live.{live_at, own}
use Rattle.image_model.specs.Files.{index_page}

-- how many page numbers of an index page of that span are below the number of data pages
abbrev pub kept_of : Geometry → (span count : ℕ) → ℕ
kept_of g span count = if span == 0 then min count (head_slots g) else min (count - (head_slots g + (span - 1) * span_slots g)) (span_slots g)

-- A copy of an index page of a span, of whose page numbers so many are kept: the others are 0xFFFF, all bytes that mean nothing are 0xFF,
-- and behind a name are zeros.
pub record IsCopy (g : Geometry) (span kept : ℕ) (old new : List ℕ) : Type 0 where
  pub size : length new ≡ length old
  pub head : (k : ℕ) → k < 5 → slice_index new k ≡ slice_index old k
  pub aligned : (k : ℕ) → 5 ≤ k → k < 8 → slice_index new k ≡ 0xFF
  pub fields : (k : ℕ) → 8 ≤ k → k < slot_place g span kept → (span ≡ 0 → (k < 13) ⊎ (45 ≤ k)) → slice_index new k ≡ slice_index old k
  pub name : span ≡ 0 → name_of new ≡ name_of old
  pub padding : span ≡ 0 → (name : List ℕ) → name_of old ≡ Some name → name_field new ≡ padded name
  pub erased : (k : ℕ) → slot_place g span kept ≤ k → k < g.page → slice_index new k ≡ 0xFF

-- the size that a header page tells, where there is one
abbrev pub size_in : Option (List ℕ) → ℕ
size_in None = 0
size_in (Some head) = size_of head

-- how many data pages the file of an id has by its header page
unfoldable pub count_of : Geometry → List ℕ → ℕ → ℕ
count_of g image id = data_pages g (size_in (option_and_then (own (live_at g image) id) (index_page g (own (live_at g image) id) 0)))

-- y is the copy of an index page of the image with these bytes, by the number of data pages of its file
abbrev pub IsCopyIn : Geometry → (image old y : List ℕ) → Type 0
IsCopyIn g image old y = IsCopy g (span_of old) (kept_of g (span_of old) (count_of g image (obj_id old % 0x8000))) old y
