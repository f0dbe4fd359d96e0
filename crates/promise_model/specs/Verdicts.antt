-- What a rehearsal tells of a script.
use Rattle.std.specs.Prelude.{◌≡◌, ◌⊎◌, ℕ, ◌+◌, List, [], ◌∷◌, ◌++◌, length, Bool, true, false, Option, Some, None, if◌then◌else◌}
use Rattle.std.specs.List.{All}
use Rattle.geometry.specs.declared.geometry.Geometry.{Geometry}
use Rattle.table_model.specs.Table.{File, State}
use Rattle.table_model.specs.Window.{Moment, settled_at}
use Rattle.call_script.specs.Lines.{lines}
use Rattle.trace_laws.specs.Counting.{is_corner}
use Rattle.promise_model.specs.declared.form.Form.TheVariants.{First}
use Rattle.promise_model.specs.Lines.{Sort, Calls, Promises, Ends, BadCall, BadPromise, sort_of}
use Rattle.promise_model.specs.Promises.{Promise, Keeps}
use Rattle.promise_model.specs.Places.{Place, moment_behind, AreKept}
use Rattle.promise_model.specs.Laws.{IsGood, places_of}

-- ---- the lines

-- what is wrong with a script: the line of that number, from 1, is outside the grammar, or it is a line `#!` that is none of the forms
pub data Fault : Type 0 where
  BadLineAt : (line : ℕ) → Fault
  BadPromiseAt : (line : ℕ) → Fault

-- a promise `first` is in force behind a line, where one was (`within`) or not before it
abbrev pub is_open : Bool → Sort → Bool
is_open within (Promises First names) = true
is_open within Ends = false
is_open within _ = within

-- what is wrong with the line of that number: a line `#! end` needs a promise `first` in force
abbrev pub fault_at : Bool → ℕ → Sort → Option Fault
fault_at within n BadCall = Some (BadLineAt n)
fault_at within n BadPromise = Some (BadPromiseAt n)
fault_at false n Ends = Some (BadPromiseAt n)
fault_at within n _ = None

-- the first of two faults, if there is one
abbrev pub or_fault : Option Fault → Option Fault → Option Fault
or_fault (Some fault) later = Some fault
or_fault None later = later

-- what is wrong with lines, the first of that number: the first fault
unfoldable pub first_fault : Bool → ℕ → List (List ℕ) → Option Fault
first_fault within n [] = None
first_fault within n (line ∷ ls) = or_fault (fault_at within n (sort_of line)) (first_fault (is_open within (sort_of line)) (n + 1) ls)

-- how many of some lines are promises
abbrev pub promise_or_none : Sort → ℕ
promise_or_none (Promises form names) = 1
promise_or_none _ = 0

unfoldable pub promise_count : List (List ℕ) → ℕ
promise_count [] = 0
promise_count (line ∷ ls) = promise_or_none (sort_of line) + promise_count ls

-- ---- the calls

-- a call cuts a file where the table has no room for an index page, so that it may be refused or not
abbrev pub is_tight : Geometry → Moment → Sort → Bool
is_tight g m (Calls ask) = is_corner g m.state ask
is_tight g m _ = false

-- the number of the first line that is such a call
unfoldable pub first_tight : Geometry → Moment → ℕ → List (List ℕ) → Option ℕ
first_tight g m n [] = None
first_tight g m n (line ∷ ls) = if is_tight g m (sort_of line) then Some n else first_tight g (moment_behind g m (sort_of line)) (n + 1) ls

-- ---- the promises

-- how many tables some places have
unfoldable pub table_count : List Place → ℕ
table_count [] = 0
table_count (place ∷ others) = length place.tables + table_count others

-- A promise that is broken: the number of its line, that of the line of the call, and which of the tables that a cut there may leave, from 0.
pub record Broken : Type 0 where
  pub promise : ℕ
  pub line : ℕ
  pub step : ℕ
  pub table : List File

-- the first of some promises that a table doesn't keep has that line; or it keeps all
unfoldable pub Finds : List Promise → List File → Option ℕ → Type 0
Finds [] table found = found ≡ None
Finds (p ∷ ps) table found = ((Keeps p table → ⊥) × (found ≡ Some p.line)) ⊎ (Keeps p table × Finds ps table found)

-- the first of some tables, the first of that number, that doesn't keep some promises at a line
unfoldable pub FindsTable : List Promise → (line step : ℕ) → List (List File) → Option Broken → Type 0
FindsTable ps line step [] found = found ≡ None
FindsTable ps line step (table ∷ others) found =
    ((promise : ℕ) × Finds ps table (Some promise) × (found ≡ Some (record { promise = promise; line = line; step = step; table = table })))
    ⊎ (Finds ps table None × FindsTable ps line (step + 1) others found)

-- the first of some places at which a promise in force is broken
unfoldable pub FindsPlace : List Place → Option Broken → Type 0
FindsPlace [] found = found ≡ None
FindsPlace (place ∷ others) found =
    ((b : Broken) × FindsTable place.promises place.line 0 place.tables (Some b) × (found ≡ Some b))
    ⊎ (FindsTable place.promises place.line 0 place.tables None × FindsPlace others found)

-- what a rehearsal tells
pub data Told : Type 0 where
  IsFaulty : (fault : Fault) → Told
  MayBeTight : (line : ℕ) → Told
  AllKept : (promises tables : ℕ) → Told
  NotKept : (broken : Broken) → Told

-- no line is at fault
abbrev pub HasNoFault : List ℕ → Type 0
HasNoFault script = first_fault false 1 (lines script) ≡ None

-- and no call may be tight
abbrev pub IsFollowed : Geometry → State → List ℕ → Type 0
IsFollowed g s script = HasNoFault script × (first_tight g (settled_at s) 1 (lines script) ≡ None)

-- A rehearsal of a script tells what is wrong with it, else which call may be tight, else the first place and table at which a promise is broken,
-- or that none is.
abbrev pub Tells : Geometry → State → List ℕ → Told → Type 0
Tells g s script (IsFaulty fault) = first_fault false 1 (lines script) ≡ Some fault
Tells g s script (MayBeTight line) = HasNoFault script × (first_tight g (settled_at s) 1 (lines script) ≡ Some line)
Tells g s script (AllKept promises tables) =
    IsFollowed g s script × FindsPlace (places_of g s script) None × (promises ≡ promise_count (lines script)) × (tables ≡ table_count (places_of g s script))
Tells g s script (NotKept broken) = IsFollowed g s script × FindsPlace (places_of g s script) (Some broken)

-- ---- what that means

-- A promise is broken at a place by one of the published steps: a table that a cut there may leave doesn't keep it. At the places before, and by
-- the tables before it at that place, all promises are kept, and by that table those that stand before this one.
pub record IsBroken (ps : List Place) (b : Broken) : Type 0 where
  pub before : List Place
  pub place : Place
  pub behind : List Place
  pub places_are : ps ≡ before ++ (place ∷ behind)
  pub kept_before : AreKept before
  pub line_is : b.line ≡ place.line
  pub earlier : List (List File)
  pub later : List (List File)
  pub tables_are : place.tables ≡ earlier ++ (b.table ∷ later)
  pub step_is : b.step ≡ length earlier
  pub kept_earlier : All (λ table. All (λ p. Keeps p table) place.promises) earlier
  pub given : List Promise
  pub promise : Promise
  pub others : List Promise
  pub promises_are : place.promises ≡ given ++ (promise ∷ others)
  pub promise_is : b.promise ≡ promise.line
  pub kept_given : All (λ p. Keeps p b.table) given
  pub broken : Keeps promise b.table → ⊥

-- A rehearsal that tells no fault, no tight call and no broken promise finds the script good, and one that tells a broken promise tells the first.
abbrev pub KeptIsGood : Geometry → Type 0
KeptIsGood g = (s : State) (script : List ℕ) (promises tables : ℕ) → Tells g s script (AllKept promises tables) → IsGood g s script

abbrev pub BrokenIsStep : Geometry → Type 0
BrokenIsStep g = (s : State) (script : List ℕ) (b : Broken) → Tells g s script (NotKept b) → IsBroken (places_of g s script) b
