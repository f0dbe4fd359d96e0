-- What the events that were recorded of a device in memory tell.
use Rattle.std.specs.Prelude.{ℕ, ◌≡◌, ◌+◌, List, [], ◌∷◌, ◌++◌, length, slice_range}
use Rattle.nor_memory.specs.declared.memory.MemBoard.{MemBoard}
use Rattle.nor_memory.specs.contracts.memory.MemBoardNorState.TheImpl.{ghosts as mem}
use Rattle.nor_core.specs.Flash.{programmed}
use Rattle.flash_trace.specs.declared.event.Bytes.{Bytes}
use Rattle.flash_trace.specs.declared.event.Event.{Event}
use Rattle.flash_trace.specs.declared.event.Event.TheVariants.{Program, Say}
use Rattle.flash_trace.specs.Events.{Standing, at_first, after_events, EachStands, AllFit}

-- what stands on a device
abbrev pub standing : MemBoard → Standing
standing board = record { image = mem.bytes board; said = mem.said board }

-- what stood on it at first
abbrev pub first_standing : MemBoard → Standing
first_standing board = at_first (mem.lent board)

-- nothing was asked of it that changed it
pub record IsFresh (board : MemBoard) : Type 0 where
  pub bytes : mem.bytes board ≡ mem.lent board
  pub said : mem.said board ≡ []

-- The events lead from its first image to what stands, each of them a right one, and what stood between two of them is what a cut may leave.
pub record Recorded (board : MemBoard) (events : List Event) : Type 0 where
  pub stands : after_events (mem.unit board) events (first_standing board) ≡ standing board
  pub each : EachStands (λ s. mem.left_since board 0 s.image (length s.said)) (mem.unit board) events (first_standing board)
  pub fit : AllFit (mem.unit board) events (first_standing board)

-- a program was noted behind the others
pub record NotesProgram (at : ℕ) (asked was : List ℕ) (old new : List Event) : Type 0 where
  pub bits : Bytes
  pub got : Bytes
  pub noted : new ≡ old ++ Program at bits got ∷ []
  pub bits_is : bits.bytes.items ≡ asked
  pub got_is : got.bytes.items ≡ programmed (slice_range was at (at + length asked)) 0 asked

-- a saying was noted
pub record NotesSay (piece : List ℕ) (old new : List Event) : Type 0 where
  pub bits : Bytes
  pub noted : new ≡ old ++ Say bits ∷ []
  pub bits_is : bits.bytes.items ≡ piece

-- the event of a program over these bytes
pub record IsProgramEvent (at : ℕ) (asked was : List ℕ) (event : Event) : Type 0 where
  pub bits : Bytes
  pub got : Bytes
  pub event_is : event ≡ Program at bits got
  pub bits_is : bits.bytes.items ≡ asked
  pub got_is : got.bytes.items ≡ programmed was 0 asked

-- the event of saying a piece
pub record IsSayEvent (piece : List ℕ) (event : Event) : Type 0 where
  pub bits : Bytes
  pub event_is : event ≡ Say bits
  pub bits_is : bits.bytes.items ≡ piece
