-- Marks of pages: a byte for each, that tells the header pages of files and of damaged files, and behind them notes of ids.
use Rattle.std.specs.Prelude.{◌≡◌, ◌≢◌, ℕ, ◌<◌, ◌≤◌, ◌+◌, ◌-◌, ◌*◌, ◌%◌, List, ◌==◌, ◌&&◌, true, Option, Some, None, Result, Ok, Err, find, is_some}
use Rattle.std.specs.Prelude.{option_and_then, unwrap_or, slice_index, if◌then◌else◌}
use Rattle.std.specs.List.{range_with_len, fold}
use Rattle.std.specs.Option.{option_map}
use Rattle.geometry.specs.declared.geometry.Geometry.{Geometry}
use Rattle.geometry.specs.Numbers.{page_count}
use Rattle.table_model.specs.Table.{File}
use Rattle.image_model.specs.declared.damage.Damage.{Damage}
use Rattle.image_model.specs.declared.damage.Damage.TheVariants.{BadName, SameName}
use Rattle.image_model.specs.Places.{page_of}
use Rattle.image_model.specs.Headers.{name_of}
use Rattle.image_model.specs.Live.{live_at, own}
use Rattle.image_model.specs.Files.{index_page, judged}
use Rattle.image_model.specs.Tables.{has_of, ids, counted, is_named, damage}
use Rattle.image_model.specs.Tidy.{is_number}
use Rattle.flash_view.specs.Found.{headed, is_name, IsNextId, IsLastId}
use Rattle.file_find.specs.Judging.{cause_of}
use Rattle.file_find.specs.Ids.{is_noted, name_number}

-- why an id that has a header page has no file in the table, where it has none
unfoldable pub cause_at : Geometry → List ℕ → ℕ → Option Damage
cause_at g image id = option_map (λ d. d.1) (damage (has_of g (live_at g image)) 0x7FFF id (has_of g (live_at g image) id))

-- a number below 253 that files of one name have in common
unfoldable pub name_hash : List ℕ → ℕ
name_hash name = fold (λ h b. (31 * h + b) % 253) 0 name

-- the mark of a file's header page by its name
abbrev pub name_mark : List ℕ → ℕ
name_mark name = 3 + name_hash name

-- the mark of a header page, by what is judged of its file and by the id's damage: 1 where the file isn't whole, 2 where it is and
-- another file has its name, and else that of its name
abbrev pub mark_for : Result File Damage → Option Damage → ℕ
mark_for (Err e) cause = 1
mark_for (Ok f) None = name_mark f.name
mark_for (Ok f) (Some cause) = 2

-- the mark of a page by what an id has, and 0 where that is another page
abbrev pub mark_by : Option Damage → Option (ℕ × Result File Damage) → ℕ → ℕ
mark_by cause None p = 0
mark_by cause (Some (q, r)) p = if q == p then mark_for r cause else 0

-- the same for the id that the page tells, where it tells one
abbrev pub mark_as : Geometry → List ℕ → Option ℕ → ℕ → ℕ
mark_as g image None p = 0
mark_as g image (Some id) p = mark_by (cause_at g image id) (has_of g (live_at g image) id) p

-- the mark of a page: of which kind the id is whose header page it is, and 0 where it is none
unfoldable pub mark_of : Geometry → List ℕ → ℕ → ℕ
mark_of g image p = mark_as g image (headed (live_at g image p)) p

-- each page of the volume has its mark, and each id that has a header page is noted behind them
pub record IsMarked (g : Geometry) (image marks : List ℕ) : Type 0 where
  pub each : (p : ℕ) → p < page_count g → slice_index marks p ≡ mark_of g image p
  pub noted : (p id : ℕ) → p < page_count g → headed (live_at g image p) ≡ Some id → is_noted marks (page_count g) id ≡ true

-- a page below one that is a header page of this id
pub record HasBelow (g : Geometry) (image : List ℕ) (id end : ℕ) : Type 0 where
  pub page : ℕ
  pub below : page < end
  pub is : headed (live_at g image page) ≡ Some id

-- each page below one has its mark
pub record MarkedBelow (g : Geometry) (image marks : List ℕ) (end : ℕ) : Type 0 where
  pub each : (p : ℕ) → p < end → slice_index marks p ≡ mark_of g image p

-- each page below one has its mark, and noted are the ids that have a header page there
pub record Surveyed (g : Geometry) (image marks : List ℕ) (end : ℕ) : Type 0 where
  pub marked : MarkedBelow g image marks end
  pub noted : (p id : ℕ) → p < end → headed (live_at g image p) ≡ Some id → is_noted marks (page_count g) id ≡ true
  pub only : (id : ℕ) → id < 0x8000 → is_noted marks (page_count g) id ≡ true → HasBelow g image id end

-- page p, from `from` on and below `end`, has this mark, and no page from `from` on before it does
pub record IsNextMark (marks : List ℕ) (sought from end p : ℕ) : Type 0 where
  pub low : from ≤ p
  pub below : p < end
  pub is : slice_index marks p ≡ sought
  pub passed : (q : ℕ) → from ≤ q → q < p → slice_index marks q ≢ sought

-- the first page from `from` on and below `end` that has this mark, or none
abbrev pub NextMark : List ℕ → (sought from end : ℕ) → Option ℕ → Type 0
NextMark marks sought from end None = (q : ℕ) → from ≤ q → q < end → slice_index marks q ≢ sought
NextMark marks sought from end (Some p) = IsNextMark marks sought from end p

-- the id whose header page a page is, if it is marked
unfoldable pub marked_id : Geometry → List ℕ → ℕ → Option ℕ
marked_id g image p = if mark_of g image p == 0 then None else headed (live_at g image p)

-- the header page of an id among the pages from `from` on and below `to`
unfoldable pub head_between : Geometry → List ℕ → ℕ → ℕ → ℕ → Option ℕ
head_between g image id from to = find (λ p. is_number (marked_id g image p) id) (range_with_len from (to - from))

-- the id whose header page a page is, where its file is the table's of that name
unfoldable pub holder_at : Geometry → List ℕ → List ℕ → ℕ → Option ℕ
holder_at g image name p = if (mark_of g image p == name_mark name) && is_name (name_of (page_of g image p)) name then headed (live_at g image p) else None

-- the name of each file of the table whose header page is below `end` is noted
pub record NamesBelow (g : Geometry) (image marks : List ℕ) (end : ℕ) : Type 0 where
  pub each : (p : ℕ) (name : List ℕ) → p < end → is_some (holder_at g image name p) ≡ true → is_noted marks (page_count g) (name_number name) ≡ true

-- the id of the table's file of that name, where its header page is below `end`
unfoldable pub holder_below : Geometry → List ℕ → List ℕ → ℕ → Option ℕ
holder_below g image name end = option_and_then (holder_at g image name) (find (λ p. is_some (holder_at g image name p)) (range_with_len 0 end))

-- the mark of the header page of a whole file with that name
abbrev pub whole_mark : Geometry → List ℕ → ℕ → Option (List ℕ) → ℕ
whole_mark g image p None = 1
whole_mark g image p (Some name) = if is_some (holder_below g image name p) then 2 else name_mark name

-- the mark of a page by what is judged of its file
abbrev pub judged_mark : Geometry → List ℕ → ℕ → Option Damage → ℕ
judged_mark g image p None = whole_mark g image p (name_of (page_of g image p))
judged_mark g image p (Some cause) = 1

-- the mark of a page, which is the first header page of this id where there is one
abbrev pub head_mark : Geometry → List ℕ → Option ℕ → ℕ → ℕ
head_mark g image None p = 0
head_mark g image (Some id) p = judged_mark g image p (cause_of (judged g (own (live_at g image) id) id (page_of g image p)))

-- the next id with a header page, and that page; or none where there is none
abbrev pub NextHead : Geometry → List ℕ → ℕ → Option (ℕ × ℕ) → Type 0
NextHead g image after None = IsLastId g image after
NextHead g image after (Some (id, page)) = IsNextId g image after id × (index_page g (own (live_at g image) id) 0 ≡ Some page)

-- the id of the table's file of that name
unfoldable pub table_id : Geometry → List ℕ → List ℕ → Option ℕ
table_id g image name = find (λ id. is_named (counted (has_of g (live_at g image)) 0x7FFF (has_of g (live_at g image) id)) name) (ids 0x7FFF)

-- the damage of a whole file with that name, where another file of the table has it
abbrev pub same_name : Geometry → List ℕ → Option (List ℕ) → Option Damage
same_name g image None = Some BadName
same_name g image (Some name) = Some (SameName (unwrap_or (table_id g image name) 0))
