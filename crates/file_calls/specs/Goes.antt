-- What a call does to a device that holds a checked volume.
use Rattle.std.specs.Prelude.{◌≡◌, ◌≢◌, ◌≤◌, ◌⊎◌, ℕ, List, ◌∷◌, length, Bool, true, false, Some, None}
use Rattle.geometry.specs.declared.geometry.Geometry.{Geometry}
use Rattle.nor_core.specs.declared.state.NorState.{Ghosts as NorOf}
use Rattle.nor_core.specs.Count.{Rose}
use Rattle.nor_core.specs.Device.{Changes, OnlyReads}
use Rattle.table_model.specs.declared.error.FsErr.{FsErr}
use Rattle.table_model.specs.declared.error.FsErr.TheVariants.{DeviceFault, Damaged, Tight}
use Rattle.table_model.specs.declared.error.Differ.{Differ}
use Rattle.table_model.specs.Table.{State}
use Rattle.table_model.specs.Reply.{Answer, Fine, Gives, Refuses}
use Rattle.table_model.specs.Ask.{Ask, Reads, Collects}
use Rattle.table_model.specs.Room.{has_room}
use Rattle.table_model.specs.Flat.{answer}
use Rattle.table_model.specs.Steps.{is_refusal, steps, cuts_file}
use Rattle.table_model.specs.Window.{IsAmong}
use Rattle.image_model.specs.Tables.{table_of}
use Rattle.image_model.specs.Tidy.{HasReserve, has_spare}
use Rattle.image_model.specs.Sound.{IsSound}
use Rattle.room_laws.specs.Recovery.{Recovers}
use Rattle.image_model.specs.Collect.{chosen_block}
use Rattle.block_gc.specs.RoomMade.{SweptWhile, Never, IsCompact, IsReady}
use Rattle.fd_table.specs.declared.slot.FdSlot.{FdSlot}
use Rattle.trim_laws.specs.Upkeep.{Upkeep}
use Rattle.fd_table.specs.Slots.{descriptors}
use Rattle.file_calls.specs.Replies.{may_answer, is_change, is_write, keeps_slots}
use Rattle.file_calls.specs.Slots.{slots_fault, IsNumbered}
use Rattle.file_calls.specs.States.{IsImageOf}
use Rattle.file_calls.specs.Collecting.{IsStuckAt}
use Rattle.file_calls.specs.Cleans.{index_taken, rest_taken, CleansFor, CleansInTurns, WritesNoTail}

-- What a cut in a call may leave of a volume at a state, on which nothing waits: an image that is sound with respect to the one before,
-- with the table of the state or of a step of the call. Where two blocks were free it recovers: an uncut check gives two.
pub record CallCut (g : Geometry) (s : State) (ask : Ask) (was image : List ℕ) : Type 0 where
  pub sound : IsSound g image was
  pub mends : HasReserve g was → Recovers g image
  pub table : IsAmong (table_of g image) (s.table ∷ steps g (has_spare g was) s ask)

-- A call is answered as the flat table is, and device and descriptors are those of the state after it; where two blocks were free two
-- are, and refused it has only read.
pub record Reaches {D : Type 0} (nor : NorOf D) (g : Geometry) (old new : D) (after : List FdSlot) (s : State) (ask : Ask) (reply : Answer) : Type 0 where
  pub reply_is : reply ≡ (answer g (has_spare g (nor.bytes old)) s ask).answer
  pub holds : IsImageOf nor g new after (answer g (has_spare g (nor.bytes old)) s ask).next
  pub reserve : HasReserve g (nor.bytes old) → HasReserve g (nor.bytes new)
  pub reads : is_refusal reply ≡ true → OnlyReads nor old new

-- The flat table doesn't refuse a call, and the call is for garbage collection or publishes the table after it.
pub record IsDoable (g : Geometry) (image : List ℕ) (s : State) (ask : Ask) : Type 0 where
  pub done : is_refusal (answer g (has_spare g image) s ask).answer ≡ false
  pub publishes : (ask ≡ Collects) ⊎ IsAmong (answer g (has_spare g image) s ask).next.table (steps g (has_spare g image) s ask)

-- A file is to be cut on a volume with two free blocks, and the flat table does so, but the table has no room as it is: then there may be
-- no index page for the new header page.
pub record IsCornerOn (g : Geometry) (image : List ℕ) (s : State) (ask : Ask) : Type 0 where
  pub cuts : cuts_file ask ≡ true
  pub reserve : HasReserve g image
  pub full : has_room g s.table ≡ false
  pub done : is_refusal (answer g (has_spare g image) s ask).answer ≡ false

-- Garbage collection was stopped for want of room, in a call for it or in such a cut, where the flat table does the call: the one answer
-- that it doesn't tell.
pub record StopsShort (g : Geometry) (image : List ℕ) (s : State) (ask : Ask) (reply : Answer) : Type 0 where
  pub why : (ask ≡ Collects) ⊎ IsCornerOn g image s ask
  pub doable : IsDoable g image s ask
  pub tight : reply ≡ Refuses Tight

-- Device and descriptors are those of a state, and two blocks are free; but no block can be cleaned any more, and there is no page for an
-- index page.
pub record StaysAt {D : Type 0} (nor : NorOf D) (g : Geometry) (new : D) (after : List FdSlot) (s : State) : Type 0 where
  pub holds : IsImageOf nor g new after s
  pub reserve : HasReserve g (nor.bytes new)
  pub none : chosen_block g (nor.bytes new) ≡ None
  pub short : IsReady g (nor.bytes new) 1 0 → ⊥

-- Where garbage collection stops: done, the image is packed; Tight, it is stuck. Unless the device failed, it took no more programs and erases
-- than its cleanings.
pub record IsCollected (g : Geometry) (reply : Answer) (was now : List ℕ) (before after : ℕ) : Type 0 where
  pub packed : reply ≡ Fine → IsCompact g was now
  pub stuck : reply ≡ Refuses Tight → IsStuckAt g was now
  pub swept : ¬ (reply ≡ Refuses DeviceFault) → SweptWhile g Never was now before after

-- bytes that are given to a read, no more than it asks for
pub record IsGiven (ask : Ask) (bytes : List ℕ) : Type 0 where
  pub fd : ℕ
  pub count : ℕ
  pub reads : ask ≡ Reads fd count
  pub few : length bytes ≤ count

-- What a call does to a device and to the descriptors, apart from what it answers where it is whole. `wrote` says whether a program or an
-- erase was asked for.
pub record Does {D : Type 0} (nor : NorOf D) (g : Geometry) (ask : Ask) (old new : D) (slots after : List FdSlot) (wrote : Bool) (reply : Answer) : Type 0 where
  pub cuts : Changes nor old new (λ was image. (s : State) → IsImageOf nor g old slots s → CallCut g s ask was image)
  -- where no header page named a page behind the last one of its file, none does, at a cut and after the call; and no erase count changes but
  -- by making blocks fresh, each with the next count
  pub upkeep : Changes nor old new (λ was image. (s : State) → IsImageOf nor g old slots s → Upkeep g was image)
  pub collects : (s : State) → IsImageOf nor g old slots s → ask ≡ Collects → IsCollected g reply (nor.bytes old) (nor.bytes new) (nor.device_writes old) (nor.device_writes new)
  -- Tight for want of a page for a cut, the call has changed nothing but where pages stand
  pub cornered : (s : State) → IsImageOf nor g old slots s → IsCornerOn g (nor.bytes old) s ask → reply ≡ Refuses Tight → StaysAt nor g new after s
  pub begun : (s : State) → IsImageOf nor g old slots s → wrote ≡ true → IsDoable g (nor.bytes old) s ask
  pub untouched : wrote ≡ false → OnlyReads nor old new
  -- refused, or where the device failed, and in a call that only looks at them, the descriptors stay
  pub still : is_refusal reply ≡ true → after ≡ slots
  pub keeps : keeps_slots ask ≡ true → after ≡ slots
  pub cause : reply ≡ Refuses DeviceFault → Rose (nor.faults old) (nor.faults new)
  pub differs : (d : Differ) → reply ≡ Refuses (Damaged d) → d.wanted ≢ d.found
  pub undamaged : (s : State) → IsImageOf nor g old slots s → (d : Differ) → reply ≡ Refuses (Damaged d) → ⊥
  pub among : may_answer ask reply ≡ true
  pub brief : (bytes : List ℕ) → reply ≡ Gives bytes → IsGiven ask bytes
  -- what the arguments and the descriptors show, whatever the device tells
  pub numbered : IsNumbered g slots ask reply wrote
  pub looks : is_change ask ≡ false → wrote ≡ false
  -- a call that is neither a write nor garbage collection has a first part in which it cleans blocks: none there where the index page that it takes
  -- is had and two blocks are free, and each where that isn't so. From there on two free blocks stay free, and no block is made fresh; a call that
  -- takes no index page, such as a remove, cleans none
  pub cleans : (s : State) → IsImageOf nor g old slots s → is_write ask ≡ false → ask ≢ Collects →
      CleansFor nor g (index_taken ask) 0 (rest_taken g ask) old new (reply ≡ Refuses DeviceFault)
  -- and a write cleans in turns, one for each step that it publishes at most, and one more where the tail of its file is to be made ready: each has
  -- such a first part, for two index pages and one data page, and no block is made fresh from there to the end of the turn
  pub turns : (s : State) → IsImageOf nor g old slots s → is_write ask ≡ true →
      CleansInTurns nor g (WritesNoTail g (nor.bytes old) s ask) (length (steps g (has_spare g (nor.bytes old)) s ask)) old new
      (reply ≡ Refuses DeviceFault)

-- Where the table of block counts stood, it stands after a call on a volume at a state, unless the device failed.
abbrev pub StandsOn : {D : Type 0} (nor : NorOf D) (g : Geometry) (old : D) (slots : List FdSlot) (reply : Answer) (stood stands : Bool) → Type 0
StandsOn nor g old slots reply stood stands = (s : State) → IsImageOf nor g old slots s → ¬ (reply ≡ Refuses DeviceFault) → stood ≡ true → stands ≡ true

-- What a call does that leaves no written bytes waiting: it is answered as the flat table is, where garbage collection isn't stuck; and
-- refused for what its arguments and the descriptors show it asks nothing of the device, not even a read.
pub record Goes {D : Type 0} (nor : NorOf D) (g : Geometry) (ask : Ask) (old new : D) (slots after : List FdSlot) (wrote : Bool) (reply : Answer) : Type 0 where
  pub does : Does nor g ask old new slots after wrote reply
  pub answers : (s : State) → IsImageOf nor g old slots s → ¬ (reply ≡ Refuses DeviceFault) → ¬ StopsShort g (nor.bytes old) s ask reply →
      Reaches nor g old new after s ask reply
  pub quiet : (why : FsErr) → slots_fault g (descriptors slots) ask ≡ Some why → new ≡ old
