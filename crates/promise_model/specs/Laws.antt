-- What promises that are kept at each place say of the runs of a script.
use Rattle.std.specs.Prelude.{◌≡◌, ℕ, List, [], ◌∷◌, ◌++◌, length, Some}
use Rattle.std.specs.List.{All, slice_get}
use Rattle.geometry.specs.declared.geometry.Geometry.{Geometry}
use Rattle.table_model.specs.Table.{File, State}
use Rattle.table_model.specs.Ask.{Ask}
use Rattle.table_model.specs.Window.{settled_at, IsAmong}
use Rattle.call_script.specs.Lines.{Bad, of_line, lines, calls}
use Rattle.image_model.specs.Tables.{table_of}
use Rattle.run_model.specs.Runs.{RunCall, AreFair, asks_of, after_all, IsCut}
use Rattle.run_model.specs.Rooms.{AllFindRoom}
use Rattle.promise_model.specs.Promises.{Keeps}
use Rattle.promise_model.specs.Places.{Place, places, AreKept}

-- each line is in the grammar
unfoldable pub AllInGrammar : List (List ℕ) → Type 0
AllInGrammar [] = Unit {0}
AllInGrammar (line ∷ ls) = (of_line line ≡ Bad → ⊥) × AllInGrammar ls

-- the places of a script on a volume of these numbers, all of it settled at first
abbrev pub places_of : Geometry → State → List ℕ → List Place
places_of g s script = places g (settled_at s) [] 1 (lines script)

-- A table that may be left where so many calls of a script were answered: it is one of those of that place, and it keeps each promise that is
-- in force there.
pub record KeepsAll (g : Geometry) (s : State) (script : List ℕ) (answered : ℕ) (table : List File) : Type 0 where
  pub place : Place
  pub place_is : slice_get (places_of g s script) answered ≡ Some place
  pub among : IsAmong table place.tables
  pub keeps : All (λ p. Keeps p table) place.promises

-- A rehearsal of a script finds it good: each line is in the grammar, no call cuts a file where the table has no room for an index page, and at
-- each place the promises are kept.
pub record IsGood (g : Geometry) (s : State) (script : List ℕ) : Type 0 where
  pub in_grammar : AllInGrammar (lines script)
  pub finds_room : AllFindRoom g (settled_at s) (calls script)
  pub kept : AreKept (places_of g s script)

-- Then each image that a power cut in a run of the script may leave, whatever calls of it the run came to, keeps the promises that are in force
-- where so many calls were answered.
abbrev pub CutsKeep : Geometry → Type 0
CutsKeep g = (s : State) (script : List ℕ) → IsGood g s script → (done : List RunCall) (later : List Ask) → calls script ≡ asks_of done ++ later →
    AreFair g (settled_at s) done →
    (said image : List ℕ) → (cut : IsCut g (settled_at s) done said image) → KeepsAll g s script (length cut.front) (table_of g image)

-- So does the table behind the calls that the run came to.
abbrev pub EndsKeep : Geometry → Type 0
EndsKeep g = (s : State) (script : List ℕ) → IsGood g s script → (done : List RunCall) (later : List Ask) → calls script ≡ asks_of done ++ later →
    AreFair g (settled_at s) done →
    KeepsAll g s script (length done) (after_all g (settled_at s) done).state.table
