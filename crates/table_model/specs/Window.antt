-- The write window: bytes of the last writes that are not on the chip yet, all inside one data page.
use Rattle.std.specs.Prelude.{ℕ, ◌≡◌, ◌⊎◌, ◌+◌, ◌*◌, ◌/◌, List, [], ◌∷◌, ◌++◌, length, Option, Some, None, Bool, true, false, not, nat_lt, nat_le, ◌==◌, ◌&&◌}
use Rattle.std.specs.Prelude.{if◌then◌else◌}
use Rattle.geometry.specs.declared.geometry.Geometry.{Geometry}
use Rattle.geometry.specs.Numbers.{body}
use Rattle.table_model.specs.Table.{File, Open, State}
use Rattle.table_model.specs.Descriptors.{open_at, is_direct}
use Rattle.table_model.specs.Files.{write_place}
use Rattle.table_model.specs.Ask.{Ask, Writes, Fills, Tells}
use Rattle.table_model.specs.Outcome.{Outcome}
use Rattle.table_model.specs.Flat.{answer}
use Rattle.table_model.specs.Steps.{open_file, is_refusal, steps}

-- bytes that wait: through which descriptor and into which file they go, their place in it, and their number
pub record Waiting : Type 0 where
  pub fd : ℕ
  pub id : ℕ
  pub start : ℕ
  pub len : ℕ

-- A volume between two calls: its state, the table of its image, the steps after that table which are not on the chip yet, and the window.
pub record Moment : Type 0 where
  pub state : State
  pub settled : List File
  pub waiting : List (List File)
  pub window : Option Waiting

-- a volume whose steps are all on the chip
unfoldable pub settled_at : State → Moment
settled_at s = record { state = s; settled = s.table; waiting = []; window = None }

-- where the data page of a place ends
abbrev pub page_end : Geometry → ℕ → ℕ
page_end g at = (at / body g + 1) * body g

-- the bytes that a write brings, where they go, and whether they may wait
pub record Incoming : Type 0 where
  pub bytes : Waiting
  pub direct : Bool

-- a write through a descriptor on its file, if there are these
abbrev pub incoming : ℕ → ℕ → Option Open → Option File → Option Incoming
incoming fd len (Some d) (Some f) = Some (record { bytes = record { fd = fd; id = f.id; start = write_place d f; len = len }; direct = is_direct d.flags })
incoming fd len d f = None

-- a write of so many bytes through the descriptor of a number
abbrev pub incoming_at : State → ℕ → ℕ → Option Incoming
incoming_at s fd len = incoming fd len (open_at s.slots fd) (open_file s (open_at s.slots fd))

-- what a call writes, if it is a write
unfoldable pub incoming_of : State → Ask → Option Incoming
incoming_of s (Writes fd bytes) = incoming_at s fd (length bytes)
incoming_of s (Fills fd count byte) = incoming_at s fd count
incoming_of s _ = None

-- a write continues what waits: it goes through the same descriptor, starts where that ends, and lies in its data page
abbrev pub continues : Geometry → Option Waiting → Option Incoming → Bool
continues g (Some w) (Some i) = (w.fd == i.bytes.fd) && (w.start + w.len == i.bytes.start) && nat_le (i.bytes.start + i.bytes.len) (page_end g w.start)
continues g w i = false

-- a write of at least one byte may wait: it isn't direct, and its bytes lie in one data page
abbrev pub may_wait : Geometry → Option Incoming → Bool
may_wait g None = false
may_wait g (Some i) = not i.direct && nat_lt 0 i.bytes.len && nat_le (i.bytes.start + i.bytes.len) (page_end g i.bytes.start)

-- what waits after a continuing write
abbrev pub extended : Option Waiting → Option Incoming → Option Waiting
extended (Some w) (Some i) = Some (record w { len = w.len + i.bytes.len })
extended w i = w

-- what waits after a write that begins a window
abbrev pub begun : Option Incoming → Option Waiting
begun None = None
begun (Some i) = Some i.bytes

-- telling an offset leaves the window as it is
abbrev pub leaves_window : Ask → Bool
leaves_window (Tells fd) = true
leaves_window _ = false

-- after a continuing write: its steps wait behind the others
abbrev pub goes_on : Moment → State → List (List File) → Option Incoming → Moment
goes_on m next more i = record { state = next; settled = m.settled; waiting = m.waiting ++ more; window = extended m.window i }

-- after a write that begins a window: what waited is on the chip, and its steps wait
abbrev pub begins : Moment → State → List (List File) → Option Incoming → Moment
begins m next more i = record { state = next; settled = m.state.table; waiting = more; window = begun i }

-- The volume after a call of that outcome and steps. A refused write, and every call that is no write but telling an offset, settles the window.
abbrev pub moved : Geometry → Moment → Ask → Outcome → List (List File) → Moment
moved g m ask outcome more =
    let i = incoming_of m.state ask in
    if leaves_window ask then record m { state = outcome.next }
    else if is_refusal outcome.answer then settled_at outcome.next
    else if continues g m.window i then goes_on m outcome.next more i
    else if may_wait g i then begins m outcome.next more i
    else settled_at outcome.next

-- the volume after a call
unfoldable pub after : Geometry → Bool → Moment → Ask → Moment
after g spare m ask = moved g m ask (answer g spare m.state ask) (steps g spare m.state ask)

-- the tables from the last settled one to the last of these further steps
abbrev pub from_settled : Moment → List (List File) → List (List File)
from_settled m more = m.settled ∷ m.waiting ++ more

-- the table is one of these
unfoldable pub IsAmong : List File → List (List File) → Type 0
IsAmong t [] = ⊥
IsAmong t (u ∷ us) = (t ≡ u) ⊎ IsAmong t us
