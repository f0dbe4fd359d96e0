-- What a call answers and leaves, and how a refusal is answered.
use Rattle.std.specs.Prelude.{ℕ, List, Option, Some, None, Bool, not, if◌then◌else◌}
use Rattle.geometry.specs.declared.geometry.Geometry.{Geometry}
use Rattle.table_model.specs.declared.error.FsErr.{FsErr}
use Rattle.table_model.specs.declared.error.FsErr.TheVariants.{BadDescriptor, NotFound, Tight, Full}
use Rattle.table_model.specs.Table.{File, Open, State, file_named, file_of}
use Rattle.table_model.specs.Descriptors.{open_at}
use Rattle.table_model.specs.Room.{has_room}
use Rattle.table_model.specs.Reply.{Answer, Refuses}

-- an answer and the state after it
pub record Outcome : Type 0 where
  pub answer : Answer
  pub next : State

-- a refusal leaves the state
abbrev pub refused : FsErr → State → Outcome
refused why s = record { answer = Refuses why; next = s }

-- an answer, and the state after it
abbrev pub gives : Answer → State → Outcome
gives answer next = record { answer = answer; next = next }

-- refused, where there is a reason
abbrev pub unless : Option FsErr → State → Outcome → Outcome
unless (Some why) s done = refused why s
unless None s done = done

-- what a call does on a file; refused where there is none
abbrev pub on_found : Option File → State → (File → Outcome) → Outcome
on_found None s call = refused NotFound s
on_found (Some f) s call = call f

-- what a call does on the file of a name
abbrev pub on_name : List ℕ → State → (File → Outcome) → Outcome
on_name name s call = on_found (file_named name s.table) s call

-- what a call does through a descriptor; refused where that is closed
abbrev pub on_descriptor : Option Open → State → (Open → Outcome) → Outcome
on_descriptor None s call = refused BadDescriptor s
on_descriptor (Some d) s call = call d

-- what a call does through the descriptor of a number
abbrev pub on_open : ℕ → State → (Open → Outcome) → Outcome
on_open fd s call = on_descriptor (open_at s.slots fd) s call

-- what a call does through a descriptor on its file; each open descriptor has one
abbrev pub on_its_file : Open → Option File → State → (Open → File → Outcome) → Outcome
on_its_file d None s call = refused BadDescriptor s
on_its_file d (Some f) s call = call d f

-- what a call does through the descriptor of a number on its file
abbrev pub on_open_file : ℕ → State → (Open → File → Outcome) → Outcome
on_open_file fd s call = on_open fd s (λ d. on_its_file d (file_of d.id s.table) s call)

-- why a call that needs a page is refused, if it is: Tight where fewer than two blocks are free, else Full where the table after it has no room
unfoldable pub page_refusal : Geometry → Bool → List File → Option FsErr
page_refusal g spare files =
    if not spare then Some Tight
    else if not (has_room g files) then Some Full
    else None

-- what a call that needs a page does
abbrev pub with_page : Geometry → Bool → State → Outcome → Outcome
with_page g spare s done = unless (page_refusal g spare done.next.table) s done
