-- What the check's kills of live pages leave.
use Rattle.std.specs.Prelude.{◌≡◌, ◌≢◌, ℕ, ◌+◌, ◌%◌, ◌&&◌, List, [], length, Bool, true, false, not, Option, Some, None, is_some, if◌then◌else◌}
use Rattle.std.specs.List.{Contains}
use Rattle.geometry.specs.declared.geometry.Geometry.{Geometry}
use Rattle.image_model.specs.Headers.{obj_id, span_of, names_index}
use Rattle.image_model.specs.Live.{live_at, own}
use Rattle.image_model.specs.Files.{index_page}
use Rattle.image_model.specs.Tables.{table_of, damaged_of}
use Rattle.image_model.specs.Tidy.{is_wanted, is_number}
use Rattle.image_model.specs.Killed.{killed_of}
use Rattle.image_model.specs.Sound.{damaged_ids}
use Rattle.image_laws.specs.Changes.{Loses}
use Rattle.file_find.specs.Marks.{cause_at}
use Rattle.vol_check.specs.Stage.{IsClean, Kills}

-- without page p the table is the same, what is damaged was so, and every other page is as wanted as it was
pub record Spares (g : Geometry) (p : ℕ) (was now : List ℕ) : Type 0 where
  pub table : table_of g now ≡ table_of g was
  pub damaged : (id : ℕ) → Contains (damaged_ids g now) id → Contains (damaged_ids g was) id
  pub wanted : (q : ℕ) → q ≢ p → is_wanted g now q ≡ is_wanted g was q

-- Page p may be killed: it is live and not wanted, and nothing is lost without it.
pub record MayCull (g : Geometry) (image : List ℕ) (p : ℕ) : Type 0 where
  pub page : List ℕ
  pub live : live_at g image p ≡ Some page
  pub unwanted : is_wanted g image p ≡ false
  pub spares : (b : List ℕ) → Loses p (live_at g image) (live_at g b) → Spares g p image b

-- after a turn at page p, in which it was killed or not
pub record Culls (g : Geometry) (p : ℕ) (killed : Bool) (was now : List ℕ) : Type 0 where
  pub count : (if killed then 1 else 0) + killed_of g now ≡ killed_of g was
  pub gone : killed ≡ true → live_at g now p ≡ None
  pub others : (q : ℕ) → q ≢ p → live_at g now q ≡ live_at g was q
  pub clean : IsClean g was → IsClean g now
  pub kills : Kills g was now

-- after a pass over the image that killed n live pages
pub record Passes (g : Geometry) (n : ℕ) (was now : List ℕ) : Type 0 where
  pub count : n + killed_of g now ≡ killed_of g was
  pub clean : IsClean g was → IsClean g now
  pub kills : Kills g was now

-- a live page is an index page, and not the index page of its id and span
abbrev pub is_doubled_as : Geometry → List ℕ → ℕ → Option (List ℕ) → Bool
is_doubled_as g image p None = false
is_doubled_as g image p (Some page) = names_index page && not (is_number (index_page g (own (live_at g image) (obj_id page % 0x8000)) (span_of page)) p)

-- page p is doubled: it is a live index page, and another one of its id and span stands before it
unfoldable pub is_doubled : Geometry → List ℕ → ℕ → Bool
is_doubled g image p = is_doubled_as g image p (live_at g image p)

-- no page is doubled
abbrev pub HasNoDoubles : Geometry → List ℕ → Type 0
HasNoDoubles g image = (p : ℕ) → is_doubled g image p ≡ false

-- no page is doubled and nothing is damaged
pub record IsSettled (g : Geometry) (image : List ℕ) : Type 0 where
  pub single : HasNoDoubles g image
  pub undamaged : damaged_of g image ≡ []

-- page p is live and not wanted
unfoldable pub is_unwanted : Geometry → List ℕ → ℕ → Bool
is_unwanted g image p = is_some (live_at g image p) && not (is_wanted g image p)

-- every live page is wanted
abbrev pub IsServed : Geometry → List ℕ → Type 0
IsServed g image = (p : ℕ) → is_unwanted g image p ≡ false

-- after a turn of the first pass
pub record CullsDoubled (g : Geometry) (p : ℕ) (killed : Bool) (was now : List ℕ) : Type 0 where
  pub culls : Culls g p killed was now
  pub single : is_doubled g now p ≡ false
  pub others : (q : ℕ) → q ≢ p → is_doubled g now q ≡ is_doubled g was q
  pub damaged : damaged_of g now ≡ damaged_of g was

-- after a turn of the third pass
pub record CullsRest (g : Geometry) (p : ℕ) (killed : Bool) (was now : List ℕ) : Type 0 where
  pub culls : Culls g p killed was now
  pub served : is_unwanted g now p ≡ false
  pub others : (q : ℕ) → q ≢ p → is_unwanted g now q ≡ is_unwanted g was q
  pub settled : IsSettled g now

-- after the first pass no page is doubled, and the same files are damaged
pub record PassesDoubled (g : Geometry) (n : ℕ) (was now : List ℕ) : Type 0 where
  pub passes : Passes g n was now
  pub single : HasNoDoubles g now
  pub damaged : damaged_of g now ≡ damaged_of g was

-- after a turn of the second pass at an id with this header page, which was killed where the id was damaged: it isn't now, and
-- the others are damaged as they were
pub record CullsHead (g : Geometry) (id p : ℕ) (killed : Bool) (was now : List ℕ) : Type 0 where
  pub culls : Culls g p killed was now
  pub single : HasNoDoubles g now
  pub none : cause_at g now id ≡ None
  pub others : (j : ℕ) → j ≢ id → cause_at g now j ≡ cause_at g was j
  pub count : (if killed then 1 else 0) + length (damaged_of g now) ≡ length (damaged_of g was)

-- after the second pass nothing is damaged, and one header page of each damaged file was killed
pub record PassesDamaged (g : Geometry) (n : ℕ) (was now : List ℕ) : Type 0 where
  pub passes : Passes g n was now
  pub settled : IsSettled g now
  pub count : n ≡ length (damaged_of g was)

-- after the third pass every live page is wanted, and still nothing is damaged
pub record PassesRest (g : Geometry) (n : ℕ) (was now : List ℕ) : Type 0 where
  pub passes : Passes g n was now
  pub served : IsServed g now
  pub none : damaged_of g now ≡ []

-- after all three passes: every live page is wanted and nothing is damaged, and so many files were
pub record CullsPages (g : Geometry) (pages damaged : ℕ) (was now : List ℕ) : Type 0 where
  pub passes : Passes g pages was now
  pub served : IsServed g now
  pub none : damaged_of g now ≡ []
  pub count : damaged ≡ length (damaged_of g was)
