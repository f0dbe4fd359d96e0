-- The turns of a soak on the flat table, and its summary.
use Rattle.std.specs.Prelude.{ℕ, zero, suc, ◌+◌, ◌-◌, List, [], ◌∷◌, ◌++◌, length, replicate, min, codes, decimal, Bool, true, false, not, Option, Some, None}
use Rattle.std.specs.Prelude.{if◌then◌else◌, sum_by}
use Rattle.geometry.specs.declared.geometry.Geometry.{Geometry}
use Rattle.nor_core.specs.Draws.{drawn}
use Rattle.table_model.specs.Table.{File, State}
use Rattle.table_model.specs.Ask.{Ask, Opens, Reads, Fills, Closes, Removes}
use Rattle.table_model.specs.Flat.{answer}
use Rattle.table_model.specs.Steps.{is_refusal}
use Rattle.volume_run.specs.Ready.{opened}
use Rattle.volume_soak.specs.declared.draws.Kind.{Kind}
use Rattle.volume_soak.specs.declared.draws.Kind.TheVariants.{Adds, Makes, Drops, Looks}
use Rattle.volume_soak.specs.Draws.{name_of, count_of, byte_of, kind_of}

-- the state after a turn, and whether all of it was done
pub record Turn : Type 0 where
  pub state : State
  pub ok : Bool

-- the state after a call
abbrev pub next : Geometry → State → Ask → State
next g s ask = (answer g true s ask).next

-- a call isn't refused
abbrev pub is_done : Geometry → State → Ask → Bool
is_done g s ask = not (is_refusal (answer g true s ask).answer)

-- a call through a descriptor, which is closed then; none where the opening was refused
abbrev pub on_opened : Geometry → State → (ℕ → Ask) → Option ℕ → Turn
on_opened g s call None = record { state = s; ok = false }
on_opened g s call (Some fd) = record { state = next g (next g s (call fd)) (Closes fd); ok = is_done g s (call fd) }

-- a file is opened, and a call made through its descriptor
unfoldable pub through : Geometry → State → (name : List ℕ) (flags : ℕ) → (ℕ → Ask) → Turn
through g s name flags call = on_opened g (next g s (Opens name flags)) call (opened (answer g true s (Opens name flags)).answer)

-- a file is removed
abbrev pub removal : Geometry → State → List ℕ → Turn
removal g s name = record { state = next g s (Removes name); ok = is_done g s (Removes name) }

-- A turn of some kind with a file, a number of bytes and their value. 21 opens for adding to a file and 22 for making it anew, and both
-- make it where it is missing; 8 opens for reading.
abbrev pub turn_of : Geometry → State → Kind → (name : List ℕ) (count byte : ℕ) → Turn
turn_of g s Adds name count byte = through g s name 21 (λ fd. Fills fd count byte)
turn_of g s Makes name count byte = through g s name 22 (λ fd. Fills fd count byte)
turn_of g s Drops name count byte = removal g s name
turn_of g s Looks name count byte = through g s name 8 (λ fd. Reads fd 256)

-- the turn of a draw
unfoldable pub turn : Geometry → State → ℕ → Turn
turn g s r = turn_of g s (kind_of r) (name_of r) (count_of r) (byte_of r)

-- the state after some turns, and how many of them were done
pub record Soaked : Type 0 where
  pub state : State
  pub ok : ℕ

-- one turn more
abbrev pub counted : Soaked → Turn → Soaked
counted was t = record { state = t.state; ok = was.ok + (if t.ok then 1 else 0) }

-- so many turns from a state, the draws from a seed
unfoldable pub soaked : Geometry → State → (seed turns : ℕ) → Soaked
soaked g s seed zero = record { state = s; ok = 0 }
soaked g s seed (suc k) = let was = soaked g s seed k in counted was (turn g was.state (drawn seed k))

-- a volume without files, with so many descriptors, all closed
abbrev pub empty : (slots : ℕ) → State
empty slots = record { table = []; slots = replicate (min 65535 slots) None }

-- the bytes of all files
unfoldable pub bytes_in : List File → ℕ
bytes_in files = sum_by (λ f. length f.bytes) files

-- the line of a summary
abbrev pub summary_text : (turns ok files bytes : ℕ) → List ℕ
summary_text turns ok files bytes =
    (codes "turns " ++ decimal turns) ++ (codes " ok " ++ decimal ok) ++ (codes " refused " ++ decimal (turns - ok)) ++ (codes " files " ++ decimal files)
    ++ (codes " bytes " ++ decimal bytes) ++ (10 ∷ [])

-- the line of a soak on a volume without files
abbrev pub soak_text : Geometry → (slots seed turns : ℕ) → List ℕ
soak_text g slots seed turns =
    let last = soaked g (empty slots) seed turns in
    summary_text turns last.ok (length last.state.table) (bytes_in last.state.table)
