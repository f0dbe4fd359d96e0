-- Header pages in page order.
use Rattle.std.specs.Prelude.{ℕ, ◌≡◌, ◌<◌, ◌%◌, ◌==◌, List, length, Bool, Option, Some, None, if◌then◌else◌, slice_index, slice_set, is_some, filter}
use Rattle.std.specs.List.{range_with_len, list_any}
use Rattle.geometry.specs.declared.geometry.Geometry.{Geometry}
use Rattle.geometry.specs.Numbers.{page_count}
use Rattle.image_model.specs.Places.{page_of}
use Rattle.image_model.specs.Headers.{obj_id}
use Rattle.image_model.specs.Live.{Live, live_at, own}
use Rattle.image_model.specs.Files.{is_index, index_page}
use Rattle.image_model.specs.Tidy.{is_number}

-- the id whose header page a live page says it is
abbrev pub says : Option (List ℕ) → Option ℕ
says None = None
says (Some page) = if is_index (Some page) 0 then Some (obj_id page % 0x8000) else None

-- some page below p says that it is the header page of that id
unfoldable pub is_seen : Live → ℕ → ℕ → Bool
is_seen live p id = list_any (λ q. is_index (own live id q) 0) (range_with_len 0 p)

-- The ids are noted that have a header page below p.
pub record Seen (live : Live) (p : ℕ) (ids : List ℕ) : Type 0 where
  pub len : length ids ≡ 0x8000
  pub each : (id : ℕ) → id < 0x8000 → slice_index ids id ≡ (if is_seen live p id then 1 else 0)

-- an id that is there and was not noted
abbrev pub unseen : List ℕ → Option ℕ → Option ℕ
unseen ids None = None
unseen ids (Some id) = if slice_index ids id == 0 then Some id else None

-- it is noted beside the others
abbrev pub with_seen : List ℕ → Option ℕ → List ℕ
with_seen ids None = ids
with_seen ids (Some id) = slice_set ids id 1

-- the id whose header page a page is: the first of its header pages
unfoldable pub head_at : Geometry → List ℕ → ℕ → Option ℕ
head_at g image p =
    let id = obj_id (page_of g image p) % 0x8000 in
    if is_number (index_page g (own (live_at g image) id) 0) p then Some id else None

-- how many ids have a header page
unfoldable pub head_count : Geometry → List ℕ → ℕ
head_count g image = length (filter (λ p. is_some (head_at g image p)) (range_with_len 0 (page_count g)))
