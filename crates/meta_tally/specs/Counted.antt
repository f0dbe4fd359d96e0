-- Files that count, by the pages that are their header pages.
use Rattle.std.specs.Prelude.{ℕ, ◌≡◌, ◌≤◌, ◌+◌, ◌&&◌, not, List, length, Bool, true, false, Option, Some, None, slice_index, slice_set, is_some}
use Rattle.std.specs.List.{range_with_len, list_any}
use Rattle.geometry.specs.declared.geometry.Geometry.{Geometry}
use Rattle.geometry.specs.Numbers.{page_count, IsOf}
use Rattle.image_model.specs.Places.{page_of}
use Rattle.image_model.specs.Headers.{name_of}
use Rattle.image_model.specs.Tables.{table_of}
use Rattle.plain_image.specs.Counted.{Counts}
use Rattle.meta_tally.specs.Heads.{head_at}
use Rattle.meta_tally.specs.Names.{is_named_at}
use Rattle.meta_tally.specs.Wholes.{is_complete_at}

-- the same volume, with a number of meta bytes of its own
abbrev pub IsAlike : Geometry → Geometry → Type 0
IsAlike g h = IsOf h g.page g.block g.blocks g.phys h.meta g.magic

-- the page is the header page of a whole file with that name
unfoldable pub shadows : Geometry → List ℕ → List ℕ → ℕ → Bool
shadows g image name p = is_named_at g image name p && is_complete_at g image p

-- no page below p is that of a whole file with that name
abbrev pub is_alone : Geometry → List ℕ → ℕ → Option (List ℕ) → Bool
is_alone g image p None = false
is_alone g image p (Some name) = not (list_any (shadows g image name) (range_with_len 0 p))

-- the page is the header page of a file that counts
unfoldable pub is_counted : Geometry → List ℕ → ℕ → Bool
is_counted g image p = is_some (head_at g image p) && (is_complete_at g image p && is_alone g image p (name_of (page_of g image p)))

-- one more by a number of meta bytes, if a file counts
abbrev pub with_one : List ℕ → ℕ → Bool → List ℕ
with_one whole meta true = slice_set whole meta (slice_index whole meta + 1)
with_one whole meta false = whole

-- So many files whose header pages are below p count, by each number of meta bytes.
pub record Tallied (g : Geometry) (image : List ℕ) (p : ℕ) (whole : List ℕ) : Type 0 where
  pub len : length whole ≡ 65
  pub each : (h : Geometry) → IsAlike g h → Counts (is_counted h image) (slice_index whole h.meta) p (page_count g)
  pub few : (k : ℕ) → slice_index whole k ≤ p

-- The files of the table by each number of meta bytes.
pub record AreTallied (g : Geometry) (image : List ℕ) (whole : List ℕ) : Type 0 where
  pub len : length whole ≡ 65
  pub each : (h : Geometry) → IsAlike g h → slice_index whole h.meta ≡ length (table_of h image)
