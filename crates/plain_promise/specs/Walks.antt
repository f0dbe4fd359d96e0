-- How a script that lies in memory is walked through.
use Rattle.std.specs.Prelude.{◌≡◌, ℕ, ◌+◌, ◌<◌, ◌≤◌, List, [], ◌∷◌, ◌++◌, length, drop, map, Option, Some, None, Vec, true, false}
use Rattle.std.specs.declared.alloc.Global.{Global}
use Rattle.geometry.specs.declared.geometry.Geometry.{Geometry}
use Rattle.table_model.specs.Table.{File}
use Rattle.table_model.specs.Steps.{steps}
use Rattle.table_model.specs.Window.{Moment, from_settled}
use Rattle.call_script.specs.Lines.{lines}
use Rattle.plain_table.specs.Seen.{files_of}
use Rattle.plain_table.specs.Moments.{moment_of, geometry_of}
use Rattle.promise_model.specs.Lines.{Sort, Calls, Ends, sort_of}
use Rattle.promise_model.specs.Promises.{Promise}
use Rattle.promise_model.specs.Places.{Place, places, moment_behind, in_force}
use Rattle.promise_model.specs.Verdicts.{Broken, FindsTable, FindsPlace, first_fault, is_tight, first_tight, promise_count, table_count, Told, IsFaulty}
use Rattle.promise_model.specs.Verdicts.{MayBeTight, AllKept, NotKept}
use Rattle.promise_model.specs.Texts.{steps_text}
use Rattle.plain_table.specs.declared.file.PlainFile.{PlainFile}
use Rattle.plain_table.specs.declared.moment.PlainMoment.{PlainMoment}
use Rattle.plain_promise.specs.declared.ends.Passed.{Passed}
use Rattle.plain_promise.specs.declared.ends.Ends.{Ends as EndsFound}
use Rattle.plain_promise.specs.declared.ends.Ends.TheVariants.{Tight, Tables}
use Rattle.plain_promise.specs.declared.grammar.Checked.{Checked}
use Rattle.plain_promise.specs.declared.grammar.Checked.TheVariants.{Faulty, Fine}
use Rattle.plain_promise.specs.declared.walk.Walk.{Walk}
use Rattle.plain_promise.specs.declared.walk.Turn.{Turn}
use Rattle.plain_promise.specs.declared.walk.Turn.TheVariants.{Broken as Breaks, On}
use Rattle.plain_promise.specs.declared.verdict.Verdict.{Verdict}
use Rattle.plain_promise.specs.declared.verdict.Verdict.TheVariants.{Faulty as IsFault, Tight as IsTight, Kept, Broken as IsBroken}
use Rattle.plain_promise.specs.Seen.{promise, fault, broken}

-- a line begins there, and the next one at `behind`
pub record IsLine (script : List ℕ) (at : ℕ) (line : List ℕ) (behind : ℕ) : Type 0 where
  pub lines_are : lines (drop at script) ≡ line ∷ lines (drop behind script)
  pub on : at < behind
  pub within : behind ≤ length script

-- what was found of the lines
abbrev pub IsChecked : List ℕ → Checked → Type 0
IsChecked script (Faulty f) = first_fault false 1 (lines script) ≡ Some (fault f)
IsChecked script (Fine count) = (first_fault false 1 (lines script) ≡ None) × (count ≡ promise_count (lines script))

-- a table at a line `#! end` before the others
abbrev pub with_end : List File → Sort → List (List File) → List (List File)
with_end here Ends later = here ∷ later
with_end here _ later = later

-- the tables at the lines `#! end`, and that behind the last line
unfoldable pub end_tables : Geometry → Moment → List (List ℕ) → List (List File)
end_tables g m [] = m.state.table ∷ []
end_tables g m (line ∷ ls) = with_end m.state.table (sort_of line) (end_tables g (moment_behind g m (sort_of line)) ls)

-- what was found of the calls
abbrev pub AreEnds : Geometry → Moment → List (List ℕ) → EndsFound → Type 0
AreEnds g m ls (Tight line) = first_tight g m 1 ls ≡ Some line
AreEnds g m ls (Tables tables) = (first_tight g m 1 ls ≡ None) × (map files_of tables.items ≡ end_tables g m ls)

-- From one line to the next: a call that isn't tight, or a line that is none.
pub record PassesOn (s : Sort) (p next : Passed) : Type 0 where
  pub tight : is_tight (geometry_of p.moment) (moment_of p.moment) s ≡ false
  pub moment : moment_of next.moment ≡ moment_behind (geometry_of p.moment) (moment_of p.moment) s
  pub geometry : geometry_of next.moment ≡ geometry_of p.moment
  pub tables : (later : List (List File)) →
      map files_of next.tables.items ++ later ≡ map files_of p.tables.items ++ with_end (moment_of p.moment).state.table s later

-- it is passed, or it is a call that may be tight
abbrev pub Passes : Sort → Passed → Option Passed → Type 0
Passes s p None = is_tight (geometry_of p.moment) (moment_of p.moment) s ≡ true
Passes s p (Some next) = PassesOn s p next

-- the promises in force where a walk is
abbrev pub given_of : Walk → List Promise
given_of w = map promise w.given.items

-- the tables that a cut may leave at a line: those of its call, or none
abbrev pub tables_at : Geometry → Moment → Sort → List (List File)
tables_at g m (Calls ask) = from_settled m (steps g true m.state ask)
tables_at g m _ = []

-- one for a line `#! end`
abbrev pub end_or_none : Sort → ℕ
end_or_none Ends = 1
end_or_none _ = 0

-- A walk goes over a line at which all promises are kept. Where the next end is, the table is `there`.
pub record GoesOver (s : Sort) (there : List File) (w next : Walk) : Type 0 where
  pub moment : moment_of next.moment ≡ moment_behind (geometry_of w.moment) (moment_of w.moment) s
  pub geometry : geometry_of next.moment ≡ geometry_of w.moment
  pub given : given_of next ≡ in_force (given_of w) w.line s (moment_of w.moment).state.table there
  pub line : next.line ≡ w.line + 1
  pub ended : next.ended ≡ w.ended + end_or_none s
  pub kept : FindsTable (given_of w) w.line 0 (tables_at (geometry_of w.moment) (moment_of w.moment) s) None
  pub count : next.tables ≡ w.tables + length (tables_at (geometry_of w.moment) (moment_of w.moment) s)

-- it does, or a promise is broken there
abbrev pub Turns : Sort → List File → Walk → Turn → Type 0
Turns s there w (Breaks b) = FindsTable (given_of w) w.line 0 (tables_at (geometry_of w.moment) (moment_of w.moment) s) (Some (broken b))
Turns s there w (On next) = GoesOver s there w next

-- so at the end of a script
abbrev pub TurnsLast : Walk → Turn → Type 0
TurnsLast w (Breaks b) = FindsTable (given_of w) w.line 0 (from_settled (moment_of w.moment) []) (Some (broken b))
TurnsLast w (On last) = FindsTable (given_of w) w.line 0 (from_settled (moment_of w.moment) []) None
    × (last.tables ≡ w.tables + length (from_settled (moment_of w.moment) []))

-- what a walk over all places found
abbrev pub IsWalked : List Place → Turn → Type 0
IsWalked ps (Breaks b) = FindsPlace ps (Some (broken b))
IsWalked ps (On last) = FindsPlace ps None × (last.tables ≡ table_count ps)

-- the places from where a walk is
abbrev pub places_from : Walk → List (List ℕ) → List Place
places_from w ls = places (geometry_of w.moment) (moment_of w.moment) (given_of w) w.line ls

-- Some places are walked: those from where the walk is are left, and the tables of the others were counted.
pub record IsOnWay (all : List Place) (w : Walk) (ls : List (List ℕ)) : Type 0 where
  pub finds : (o : Option Broken) → FindsPlace (places_from w ls) o → FindsPlace all o
  pub counts : w.tables + table_count (places_from w ls) ≡ table_count all

-- the ends that are left
abbrev pub HasEnds : List (Vec PlainFile Global) → Walk → List (List ℕ) → Type 0
HasEnds ends w ls = map files_of (drop w.ended ends) ≡ end_tables (geometry_of w.moment) (moment_of w.moment) ls

-- Behind a line its tables stand behind the text that was there, and the volume is that behind it.
pub record Lists (s : Sort) (line : ℕ) (m : PlainMoment) (old new : List ℕ) (next : PlainMoment) : Type 0 where
  pub text : new ≡ old ++ steps_text line 0 (tables_at (geometry_of m) (moment_of m) s)
  pub moment : moment_of next ≡ moment_behind (geometry_of m) (moment_of m) s
  pub geometry : geometry_of next ≡ geometry_of m

-- a verdict
abbrev pub told : Verdict → Told
told (IsFault f) = IsFaulty (fault f)
told (IsTight line) = MayBeTight line
told (Kept promises tables) = AllKept promises tables
told (IsBroken b) = NotKept (broken b)
