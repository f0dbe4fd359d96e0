-- Ids and names that are found by their header pages.
use Rattle.std.specs.Prelude.{◌≡◌, ℕ, ◌-◌, ◌%◌, ◌<◌, ◌≤◌, List, Bool, true, false, nat_lt, Option, Some, None, is_some, find, option_and_then, if◌then◌else◌}
use Rattle.std.specs.List.{range_with_len}
use Rattle.std.specs.Option.{option_map, option_or}
use Rattle.geometry.specs.declared.geometry.Geometry.{Geometry}
use Rattle.table_model.specs.Table.{same_text}
use Rattle.geometry.specs.Numbers.{page_count}
use Rattle.image_model.specs.Headers.{obj_id, name_of}
use Rattle.image_model.specs.Live.{Live, live_at, own}
use Rattle.image_model.specs.Files.{is_index, index_page}

-- the first number from `near` on and below `n` that passes a test, and where there is none the first of all below `n`
abbrev pub first_near : (ℕ → Bool) → (near n : ℕ) → Option ℕ
first_near test near n = option_or (find test (range_with_len near (n - near))) (find test (range_with_len 0 n))

-- the number of the first index page of a span from page `from` on and below page `to`
unfoldable pub index_between : Live → (span from to : ℕ) → Option ℕ
index_between pages span from to = find (λ p. is_index (pages p) span) (range_with_len from (to - from))

-- the number of an index page of a span: the first from page `near` on, and where there is none the first of all
unfoldable pub index_near : Geometry → Live → (span near : ℕ) → Option ℕ
index_near g pages span near = first_near (λ p. is_index (pages p) span) near (page_count g)

-- the id has a header page
unfoldable pub has_header : Geometry → List ℕ → ℕ → Bool
has_header g image id = is_some (index_page g (own (live_at g image) id) 0)

-- an id above `after` with a header page, and none of them is less
pub record IsNextId (g : Geometry) (image : List ℕ) (after id : ℕ) : Type 0 where
  pub above : after < id
  pub has : has_header g image id ≡ true
  pub least : (other : ℕ) → after < other → has_header g image other ≡ true → id ≤ other

-- no id above `after` has a header page
pub record IsLastId (g : Geometry) (image : List ℕ) (after : ℕ) : Type 0 where
  pub none : (other : ℕ) → after < other → has_header g image other ≡ false

-- the next id with a header page, or none where there is none
abbrev pub NextId : Geometry → List ℕ → ℕ → Option ℕ → Type 0
NextId g image after None = IsLastId g image after
NextId g image after (Some id) = IsNextId g image after id

-- the name, where there is one, is this one
abbrev pub is_name : Option (List ℕ) → List ℕ → Bool
is_name None name = false
is_name (Some found) name = same_text found name

-- the id whose header page this live page is, where it is one
abbrev pub headed : Option (List ℕ) → Option ℕ
headed None = None
headed (Some page) = if is_index (Some page) 0 then Some (obj_id page % 0x8000) else None

-- that id, where the page holds this name too
abbrev pub named_at : Option (List ℕ) → List ℕ → Option ℕ
named_at None name = None
named_at (Some page) name = if is_name (name_of page) name then headed (Some page) else None

-- the id of the first live header page that holds this name, whether the file is whole or damaged
unfoldable pub first_named : Geometry → List ℕ → List ℕ → Option ℕ
first_named g image name =
    option_and_then (λ p. named_at (live_at g image p) name) (find (λ p. is_some (named_at (live_at g image p) name)) (range_with_len 0 (page_count g)))

-- the id of a page that is a live header page with this name, and its number
abbrev pub named_page : Geometry → List ℕ → List ℕ → ℕ → Option (ℕ × ℕ)
named_page g image name p = option_map (λ id. (id, p)) (named_at (live_at g image p) name)

-- the same for the first such page from page `from` on and below page `to`
unfoldable pub named_between : Geometry → List ℕ → List ℕ → (from to : ℕ) → Option (ℕ × ℕ)
named_between g image name from to =
    option_and_then (named_page g image name) (find (λ p. is_some (named_at (live_at g image p) name)) (range_with_len from (to - from)))

-- the same for the first from page `near` on, and where there is none the first of all
unfoldable pub named_near : Geometry → List ℕ → List ℕ → (near : ℕ) → Option (ℕ × ℕ)
named_near g image name near = option_and_then (named_page g image name) (first_near (λ p. is_some (named_at (live_at g image p) name)) near (page_count g))

-- the lesser of two ids, where the second counts if it is above `after`
abbrev pub lower : ℕ → Option ℕ → Option ℕ → Option ℕ
lower after least None = least
lower after None (Some id) = if nat_lt after id then Some id else None
lower after (Some least) (Some id) = if nat_lt after id then (if nat_lt id least then Some id else Some least) else Some least
