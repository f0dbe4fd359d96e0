-- Marks of pages by the names of files.
use Rattle.std.specs.Prelude.{ℕ, ◌≡◌, ◌<◌, ◌≤◌, ◌+◌, ◌*◌, ◌%◌, ◌&&◌, List, length, Bool, true, Option, Some, None, slice_index, is_some}
use Rattle.std.specs.List.{fold}
use Rattle.geometry.specs.declared.geometry.Geometry.{Geometry}
use Rattle.geometry.specs.Numbers.{page_count}
use Rattle.image_model.specs.Places.{page_of}
use Rattle.image_model.specs.Headers.{name_of}
use Rattle.plain_image.specs.Leading.{is_text}
use Rattle.meta_tally.specs.Heads.{head_at}

-- a number that files of one name have in common
unfoldable pub name_number : List ℕ → ℕ
name_number name = fold (λ h b. (31 * h + b) % 0x80000) 0 name

-- the mark of a header page with that name
unfoldable pub name_mark : List ℕ → ℕ
name_mark name = 1 + name_number name % 255

-- the mark of a page by the id whose header page it is, and its name; 0 where either is missing
abbrev pub mark_by : Option ℕ → Option (List ℕ) → ℕ
mark_by None name = 0
mark_by (Some id) None = 0
mark_by (Some id) (Some name) = name_mark name

-- the mark of a page
unfoldable pub mark_at : Geometry → List ℕ → ℕ → ℕ
mark_at g image p = mark_by (head_at g image p) (name_of (page_of g image p))

-- each page of the volume has its mark
pub record IsMarked (g : Geometry) (image marks : List ℕ) : Type 0 where
  pub len : page_count g ≤ length marks
  pub each : (p : ℕ) → p < page_count g → slice_index marks p ≡ mark_at g image p

-- the page is the header page of an id, with that name
unfoldable pub is_named_at : Geometry → List ℕ → List ℕ → ℕ → Bool
is_named_at g image name p = is_some (head_at g image p) && is_text (name_of (page_of g image p)) name

-- the numbers of the names of header pages below p are noted
pub record Noted (g : Geometry) (image : List ℕ) (p : ℕ) (names : List ℕ) : Type 0 where
  pub len : length names ≡ 0x80000
  pub each : (q : ℕ) (name : List ℕ) → q < p → is_named_at g image name q ≡ true → slice_index names (name_number name) ≡ 1
