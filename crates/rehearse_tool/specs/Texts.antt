-- What is said of a verdict, and its status.
use Rattle.std.specs.Prelude.{ℕ, List, [], ◌∷◌, ◌++◌, codes, decimal, Bool, true, false, ◌&&◌, if◌then◌else◌}
use Rattle.promise_model.specs.Places.{Place}
use Rattle.promise_model.specs.Texts.{files_text, places_text}
use Rattle.promise_model.specs.Verdicts.{Fault, BadLineAt, BadPromiseAt, Told, IsFaulty, MayBeTight, AllKept, NotKept}

abbrev pub verdict_status : Told → ℕ
verdict_status (IsFaulty f) = 5
verdict_status (MayBeTight line) = 14
verdict_status (AllKept promises tables) = 0
verdict_status (NotKept b) = 24

abbrev pub fault_line : Fault → List ℕ
fault_line (BadLineAt line) = codes "! bad line " ++ decimal line
fault_line (BadPromiseAt line) = codes "! bad promise " ++ decimal line

-- the line of a verdict, without the byte that ends it
abbrev pub verdict_line : Told → List ℕ
verdict_line (IsFaulty f) = fault_line f
verdict_line (MayBeTight line) = codes "! tight line " ++ decimal line
verdict_line (AllKept promises tables) = (codes "promises " ++ decimal promises) ++ (codes " tables " ++ decimal tables)
verdict_line (NotKept b) = (codes "! promise line " ++ decimal b.promise) ++ (codes ": line " ++ decimal b.line) ++ (codes " step " ++ decimal b.step)

-- the files of the table that breaks a promise
abbrev pub shown_files : Told → List ℕ
shown_files (NotKept b) = files_text b.table
shown_files _ = []

-- the promises were judged
abbrev pub is_judged : Told → Bool
is_judged (IsFaulty f) = false
is_judged (MayBeTight line) = false
is_judged (AllKept promises tables) = true
is_judged (NotKept b) = true

-- each table of the script's places, where they are wanted
abbrev pub tables_text : Bool → Told → List Place → List ℕ
tables_text wanted told places = if wanted && is_judged told then places_text places else []

-- all that is said
unfoldable pub rehearsal_text : Bool → Told → List Place → List ℕ
rehearsal_text wanted told places = tables_text wanted told places ++ shown_files told ++ (verdict_line told ++ 10 ∷ [])
