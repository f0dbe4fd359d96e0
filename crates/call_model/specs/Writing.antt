-- A write that is done.
use Rattle.std.specs.Prelude.{◌≡◌, ℕ, ◌<◌, ◌≤◌, ◌+◌, ◌⊎◌, List, [], ◌∷◌, length, Bool, true, false, Some, None}
use Rattle.geometry.specs.declared.geometry.Geometry.{Geometry}
use Rattle.geometry.specs.Numbers.{body}
use Rattle.table_model.specs.Table.{File, Open, State, file_of, put_file}
use Rattle.table_model.specs.Room.{has_room}
use Rattle.table_model.specs.Descriptors.{open_at, may_write, is_direct}
use Rattle.table_model.specs.Files.{written, write_place}
use Rattle.table_model.specs.Ask.{Writes}
use Rattle.table_model.specs.Reply.{Tells}
use Rattle.table_model.specs.Outcome.{gives}
use Rattle.table_model.specs.Calls.{write_into}
use Rattle.table_model.specs.Flat.{answer}
use Rattle.table_model.specs.Steps.{steps, file_steps, is_refusal}
use Rattle.table_model.specs.Window.{Moment, Incoming, incoming_of, continues, after, begins, goes_on, settled_at, page_end, from_settled, IsAmong}
use Rattle.image_model.specs.Tables.{table_of}
use Rattle.image_model.specs.Tidy.{IsTidy}
use Rattle.write_window.specs.Runs.{Run, accepted, with_more}
use Rattle.call_model.specs.Memory.{Memory, IsAt, OpensFiles, Waits}

-- A write of at least one byte through an open descriptor that may write, on its file, isn't refused: two blocks are free, and the table
-- after it has room.
pub record IsWrite (g : Geometry) (spare : Bool) (s : State) (fd : ℕ) (bytes : List ℕ) (d : Open) (f : File) : Type 0 where
  pub descriptor : open_at s.slots fd ≡ Some d
  pub file : file_of d.id s.table ≡ Some f
  pub writes : may_write d.flags ≡ true
  pub some : 0 < length bytes
  pub two_free : spare ≡ true
  pub room : has_room g (put_file (written (write_place d f) bytes f) s.table) ≡ true

-- what it brings
abbrev pub brought : ℕ → List ℕ → Open → File → Incoming
brought fd bytes d f = record { bytes = record { fd = fd; id = f.id; start = write_place d f; len = length bytes }; direct = is_direct d.flags }

-- What such a write answers, its steps, and what it brings.
pub record Writing (g : Geometry) (spare : Bool) (s : State) (fd : ℕ) (bytes : List ℕ) (d : Open) (f : File) : Type 0 where
  pub answer_is : answer g spare s (Writes fd bytes) ≡ gives (Tells (length bytes)) (write_into fd d f bytes s)
  pub steps_are : steps g spare s (Writes fd bytes) ≡ file_steps g (write_place d f) bytes f s.table
  pub brings : incoming_of s (Writes fd bytes) ≡ Some (brought fd bytes d f)

abbrev pub WriteIsDone : Geometry → Type 0
WriteIsDone g = (spare : Bool) (s : State) (fd : ℕ) (bytes : List ℕ) (d : Open) (f : File) → IsWrite g spare s fd bytes d f → Writing g spare s fd bytes d f

-- Each write of a byte that isn't refused is one.
abbrev pub DoneIsWrite : Geometry → Type 0
DoneIsWrite g = (spare : Bool) (s : State) (fd : ℕ) (bytes : List ℕ) → 0 < length bytes → is_refusal (answer g spare s (Writes fd bytes)).answer ≡ false →
    (d : Open) × (f : File) × IsWrite g spare s fd bytes d f

-- It goes on with what waits exactly where the window accepts it.
abbrev pub ContinuesAccepted : Geometry → Type 0
ContinuesAccepted g = (image : List ℕ) (memory : Memory) (m : Moment) (fd : ℕ) (bytes : List ℕ) (d : Open) (f : File) → IsAt g image memory m →
    open_at m.state.slots fd ≡ Some d → file_of d.id m.state.table ≡ Some f →
    continues g m.window (incoming_of m.state (Writes fd bytes)) ≡ accepted (body g) memory.run fd (write_place d f) (length bytes)

-- A run waits after a write that begins a window: its bytes are those of the write.
abbrev pub WaitBegins : Geometry → Type 0
WaitBegins g = (spare : Bool) (m : Moment) (fd : ℕ) (bytes : List ℕ) (d : Open) (f : File) → IsWrite g spare m.state fd bytes d f → OpensFiles m.state →
    is_direct d.flags ≡ false →
    write_place d f + length bytes ≤ page_end g (write_place d f) → continues g m.window (incoming_of m.state (Writes fd bytes)) ≡ false →
    Waits g (after g spare m (Writes fd bytes)) (record { fd = fd; id = d.id; start = write_place d f; bytes = bytes })

-- So does a longer one after a write that goes on with it.
abbrev pub WaitGoesOn : Geometry → Type 0
WaitGoesOn g = (spare : Bool) (m : Moment) (r : Run) (fd : ℕ) (bytes : List ℕ) (d : Open) (f : File) → Waits g m r → IsWrite g spare m.state fd bytes d f →
    continues g m.window (incoming_of m.state (Writes fd bytes)) ≡ true →
    Waits g (after g spare m (Writes fd bytes)) (with_more bytes r)

-- The moment after a write that begins a window, and after one that goes on with it.
abbrev pub BegunMoment : Geometry → Type 0
BegunMoment g = (spare : Bool) (m : Moment) (fd : ℕ) (bytes : List ℕ) (d : Open) (f : File) → IsWrite g spare m.state fd bytes d f → is_direct d.flags ≡ false →
    write_place d f + length bytes ≤ page_end g (write_place d f) →
    continues g m.window (incoming_of m.state (Writes fd bytes)) ≡ false →
    after g spare m (Writes fd bytes)
    ≡ begins m (write_into fd d f bytes m.state) (file_steps g (write_place d f) bytes f m.state.table) (Some (brought fd bytes d f))

abbrev pub OnMoment : Geometry → Type 0
OnMoment g = (spare : Bool) (m : Moment) (fd : ℕ) (bytes : List ℕ) (d : Open) (f : File) → IsWrite g spare m.state fd bytes d f →
    continues g m.window (incoming_of m.state (Writes fd bytes)) ≡ true →
    after g spare m (Writes fd bytes)
    ≡ goes_on m (write_into fd d f bytes m.state) (file_steps g (write_place d f) bytes f m.state.table) (Some (brought fd bytes d f))

-- The moment after a write that may not wait: it goes on with nothing, and it is direct or goes past a data page.
abbrev pub DirectMoment : Geometry → Type 0
DirectMoment g = (spare : Bool) (m : Moment) (fd : ℕ) (bytes : List ℕ) (d : Open) (f : File) → IsWrite g spare m.state fd bytes d f →
    (is_direct d.flags ≡ true) ⊎ (page_end g (write_place d f) < write_place d f + length bytes) →
    continues g m.window (incoming_of m.state (Writes fd bytes)) ≡ false → after g spare m (Writes fd bytes) ≡ settled_at (write_into fd d f bytes m.state)

-- Where a run's bytes are written into its file, each step is among those that waited.
abbrev pub WaitSettles : Geometry → Type 0
WaitSettles g = (m : Moment) (r : Run) (f : File) (t : List File) (more : List (List File)) → Waits g m r → file_of r.id m.settled ≡ Some f →
    IsAmong t (m.settled ∷ file_steps g r.start r.bytes f m.settled) → IsAmong t (from_settled m more)

-- and the last one is the table of the state
abbrev pub WaitEnds : Geometry → Type 0
WaitEnds g = (m : Moment) (r : Run) (f : File) → Waits g m r → file_of r.id m.settled ≡ Some f → m.state.table ≡ put_file (written r.start r.bytes f) m.settled

-- An image with the table of a state, and nothing that waits, is at the moment where all is settled.
abbrev pub EndedAt : Geometry → Type 0
EndedAt g = (image : List ℕ) (s : State) → IsTidy g image → table_of g image ≡ s.table → OpensFiles s →
    IsAt g image (record { slots = s.slots; run = None }) (settled_at s)

-- A write of no byte changes nothing, but that it settles what it doesn't go on with.
pub record EmptyWrite (g : Geometry) (spare : Bool) (m : Moment) (fd : ℕ) : Type 0 where
  pub answer_is : answer g spare m.state (Writes fd []) ≡ gives (Tells 0) m.state
  pub steps_are : steps g spare m.state (Writes fd []) ≡ []
  pub goes_on : continues g m.window (incoming_of m.state (Writes fd [])) ≡ true → after g spare m (Writes fd []) ≡ m
  pub settles : continues g m.window (incoming_of m.state (Writes fd [])) ≡ false → after g spare m (Writes fd []) ≡ settled_at m.state

abbrev pub EmptyIsDone : Geometry → Type 0
EmptyIsDone g = (spare : Bool) (m : Moment) (fd : ℕ) (d : Open) (f : File) → open_at m.state.slots fd ≡ Some d → file_of d.id m.state.table ≡ Some f →
    may_write d.flags ≡ true → EmptyWrite g spare m fd
