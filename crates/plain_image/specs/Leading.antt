-- The first whole file of a name in page order, in a walk over ids.
use Rattle.std.specs.Prelude.{◌≡◌, ℕ, ◌+◌, ◌<◌, ◌≤◌, List, length, get_or, Bool, false, nat_lt, ◌&&◌, Option, Some, None, Result, Ok, Err, if◌then◌else◌, ◌⊎◌}
use Rattle.geometry.specs.declared.geometry.Geometry.{Geometry}
use Rattle.table_model.specs.Table.{File, same_text}
use Rattle.image_model.specs.declared.damage.Damage.{Damage}
use Rattle.image_model.specs.Headers.{name_of}
use Rattle.image_model.specs.Live.{Live}
use Rattle.image_model.specs.Tables.{Found, has_of, is_before}

-- the header page of an id that has a whole file
abbrev pub file_page : Option (ℕ × Result File Damage) → Option ℕ
file_page None = None
file_page (Some (q, Err e)) = None
file_page (Some (q, Ok f)) = Some q

-- the header page of each id below n that has a whole file
pub record AreFiles (g : Geometry) (live : Live) (n : ℕ) (files : List (Option ℕ)) : Type 0 where
  pub len : length files ≡ n
  pub each : (id : ℕ) → id < n → get_or files id None ≡ file_page (has_of g live id)

-- a name is this one
abbrev pub is_text : Option (List ℕ) → List ℕ → Bool
is_text None name = false
is_text (Some other) name = same_text other name

-- a header page has that name
abbrev pub has_name : Option (List ℕ) → List ℕ → Bool
has_name None name = false
has_name (Some head) name = is_text (name_of head) name

-- the header page of a whole file of that name, where it stands before page p
abbrev pub earlier : Option (ℕ × Result File Damage) → ℕ → List ℕ → Option ℕ
earlier None p name = None
earlier (Some (q, Err e)) p name = None
earlier (Some (q, Ok f)) p name = if nat_lt q p && same_text f.name name then Some q else None

-- among the ids below `from` this is the first whose whole file of that name has its header page at page `least`, and no smaller id has an earlier one
pub record IsFirst (has : Found) (name : List ℕ) (from best least : ℕ) : Type 0 where
  pub low : 1 ≤ best
  pub high : best < from
  pub here : earlier (has best) (least + 1) name ≡ Some least
  pub later : (j : ℕ) → 1 ≤ j → j < best → is_before (has j) (least + 1) name ≡ false

-- among the ids below `from` that is the first with the least header page of that name; 0, with the number of pages, where there is none
pub record Leads (has : Found) (pages : ℕ) (name : List ℕ) (from best least : ℕ) : Type 0 where
  pub none : (j : ℕ) → 1 ≤ j → j < from → is_before (has j) least name ≡ false
  pub place : ((best ≡ 0) × (least ≡ pages)) ⊎ IsFirst has name from best least
