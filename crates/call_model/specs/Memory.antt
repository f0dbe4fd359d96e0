-- What a volume remembers beside its device, and the images of a volume at a moment of the flat table.
use Rattle.std.specs.Prelude.{◌≡◌, ℕ, ◌+◌, ◌-◌, ◌<◌, ◌≤◌, List, length, take, true, Option, Some, None}
use Rattle.geometry.specs.declared.geometry.Geometry.{Geometry}
use Rattle.table_model.specs.Table.{File, Open, State, file_of, put_file}
use Rattle.table_model.specs.Room.{has_room}
use Rattle.table_model.specs.Descriptors.{open_at, appends, may_write}
use Rattle.table_model.specs.Files.{written}
use Rattle.table_model.specs.Window.{Moment, settled_at, page_end, IsAmong}
use Rattle.image_model.specs.Tables.{table_of}
use Rattle.image_model.specs.Tidy.{IsTidy, HasReserve}
use Rattle.write_window.specs.Runs.{Run}

-- the descriptors, and the run of written bytes that isn't on the chip yet
pub record Memory : Type 0 where
  pub slots : List (Option Open)
  pub run : Option Run

-- A run waits at a moment: put into its file as the settled table has it, its bytes give the state's table, which is the last of the
-- waiting steps; where they go past the file's old end, the table with those before it waits too. It went through a descriptor that
-- may write.
pub record Waits (g : Geometry) (m : Moment) (r : Run) : Type 0 where
  pub file : File
  pub there : file_of r.id m.settled ≡ Some file
  pub named : file.id ≡ r.id
  pub window : m.window ≡ Some (record { fd = r.fd; id = r.id; start = r.start; len = length r.bytes })
  pub some : 0 < length r.bytes
  pub from : r.start ≤ length file.bytes
  pub one_page : r.start + length r.bytes ≤ page_end g r.start
  pub next : m.state.table ≡ put_file (written r.start r.bytes file) m.settled
  pub last : IsAmong m.state.table m.waiting
  pub middle : r.start < length file.bytes → length file.bytes < r.start + length r.bytes →
      IsAmong (put_file (written r.start (take (length file.bytes - r.start) r.bytes) file) m.settled) m.waiting
  pub room : has_room g m.state.table ≡ true
  pub descriptor : Open
  pub opened : open_at m.state.slots r.fd ≡ Some descriptor
  pub on : descriptor.id ≡ r.id
  pub writes : may_write descriptor.flags ≡ true
  pub at_end : appends descriptor.flags ≡ true → r.start ≡ length file.bytes

-- an open descriptor is on a file of the table, at a place inside it
pub record IsOpenOn (s : State) (d : Open) : Type 0 where
  pub file : File
  pub there : file_of d.id s.table ≡ Some file
  pub inside : d.offset ≤ length file.bytes

-- each open descriptor of a state is so
abbrev pub OpensFiles : State → Type 0
OpensFiles s = (fd : ℕ) (d : Open) → open_at s.slots fd ≡ Some d → IsOpenOn s d

-- what waits at a moment, on an image: nothing, and every step is settled; or a run, and two blocks are free
abbrev pub RunWaits : Geometry → List ℕ → Moment → Option Run → Type 0
RunWaits g image m None = m ≡ settled_at m.state
RunWaits g image m (Some r) = Waits g m r × HasReserve g image

-- An image and what is remembered are those of a volume at a moment: the image is tidy and has the settled table, the descriptors are
-- those of the state, each open one on a file of its table, and the run is what waits.
pub record IsAt (g : Geometry) (image : List ℕ) (memory : Memory) (m : Moment) : Type 0 where
  pub tidy : IsTidy g image
  pub table : table_of g image ≡ m.settled
  pub slots : memory.slots ≡ m.state.slots
  pub run : RunWaits g image m memory.run
  pub opened : OpensFiles m.state
