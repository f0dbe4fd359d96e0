-- The places of a script at which a power cut may come: in each of its calls, and behind the last one.
use Rattle.std.specs.Prelude.{ℕ, ◌+◌, List, [], ◌∷◌, ◌++◌, filter, Bool, true, false}
use Rattle.std.specs.List.{All}
use Rattle.geometry.specs.declared.geometry.Geometry.{Geometry}
use Rattle.table_model.specs.Table.{File}
use Rattle.table_model.specs.Steps.{steps}
use Rattle.table_model.specs.Window.{Moment, after, from_settled}
use Rattle.promise_model.specs.declared.form.Form.{Form}
use Rattle.promise_model.specs.declared.form.Form.TheVariants.{First, Any, Kept}
use Rattle.promise_model.specs.Lines.{Sort, Calls, Promises, Ends, sort_of}
use Rattle.promise_model.specs.Promises.{Promise, bytes_of, Keeps}

-- A place: the number of the line of its call, from 1, or behind the last call one more than there are lines; the tables that a cut there may
-- leave, from the settled one on; and the promises in force.
pub record Place : Type 0 where
  pub line : ℕ
  pub tables : List (List File)
  pub promises : List Promise

-- the moment behind a line
abbrev pub moment_behind : Geometry → Moment → Sort → Moment
moment_behind g m (Calls ask) = after g true m ask
moment_behind g m _ = m

-- the table at a line `#! end`, or else a later one
abbrev pub end_or : List File → Sort → List File → List File
end_or here Ends later = here
end_or here _ later = later

-- the table where the next line `#! end` stands, or that behind the last line
unfoldable pub end_table : Geometry → Moment → List (List ℕ) → List File
end_table g m [] = m.state.table
end_table g m (line ∷ ls) = end_or m.state.table (sort_of line) (end_table g (moment_behind g m (sort_of line)) ls)

-- a promise of that form stays in force behind a line `#! end`
abbrev pub is_lasting : Form → Bool
is_lasting First = false
is_lasting Any = true
is_lasting Kept = true

abbrev pub outlasts : Promise → Bool
outlasts p = is_lasting p.form

-- The promises in force behind a line of that number, at which the table is `here`, and where the next `#! end` is `there`.
abbrev pub in_force : List Promise → ℕ → Sort → (here there : List File) → List Promise
in_force given n (Promises form names) here there =
    given ++ (record { line = n; form = form; names = names; here = bytes_of names here; there = bytes_of names there } ∷ [])
in_force given n Ends here there = filter outlasts given
in_force given n _ here there = given

-- a call's place before the others
abbrev pub with_place : Geometry → Moment → List Promise → ℕ → Sort → List Place → List Place
with_place g m given n (Calls ask) later = record { line = n; tables = from_settled m (steps g true m.state ask); promises = given } ∷ later
with_place g m given n _ later = later

-- the places from a moment on, with the promises in force there, and the number of the next line
unfoldable pub places : Geometry → Moment → List Promise → ℕ → List (List ℕ) → List Place
places g m given n [] = record { line = n; tables = from_settled m []; promises = given } ∷ []
places g m given n (line ∷ ls) = with_place g m given n (sort_of line)
    (places g (moment_behind g m (sort_of line)) (in_force given n (sort_of line) m.state.table (end_table g m ls)) (n + 1) ls)

-- each promise in force is kept by each table that a cut there may leave
abbrev pub IsKeptAt : Place → Type 0
IsKeptAt place = All (λ table. All (λ p. Keeps p table) place.promises) place.tables

-- at each of these places
unfoldable pub AreKept : List Place → Type 0
AreKept [] = Unit {0}
AreKept (place ∷ others) = IsKeptAt place × AreKept others
