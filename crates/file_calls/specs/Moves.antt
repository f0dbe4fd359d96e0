-- Calls that ask nothing of the device.
use Rattle.std.specs.Prelude.{◌≡◌, List, [], Bool, true, false, Option, Result}
use Rattle.geometry.specs.declared.geometry.Geometry.{Geometry}
use Rattle.table_model.specs.declared.error.FsErr.{FsErr}
use Rattle.table_model.specs.Table.{Open, State}
use Rattle.table_model.specs.Ask.{Ask}
use Rattle.table_model.specs.Outcome.{gives}
use Rattle.table_model.specs.Flat.{answer}
use Rattle.table_model.specs.Steps.{is_refusal}
use Rattle.fd_table.specs.declared.slot.FdSlot.{FdSlot}
use Rattle.fd_table.specs.Slots.{descriptors}
use Rattle.file_calls.specs.declared.told.Told.{Told}
use Rattle.file_calls.specs.Replies.{reply_of, may_answer, is_calm}
use Rattle.file_calls.specs.Slots.{IsNumbered}

-- a state with other descriptors
abbrev pub with_slots : List (Option Open) → State → State
with_slots slots s = record s { slots = slots }

-- What such a call does to the descriptors: it is answered as the flat table is, which leaves the table, and the descriptors are then
-- those of the state after it. Refused it leaves them; it is refused exactly where no descriptor of its number is open.
pub record Moves (ask : Ask) (slots after : List FdSlot) (result : Result Told FsErr) : Type 0 where
  pub answers : (g : Geometry) (spare : Bool) (s : State) → descriptors slots ≡ s.slots →
      answer g spare s ask ≡ gives (reply_of result []) (with_slots (descriptors after) s)
  pub still : is_refusal (reply_of result []) ≡ true → after ≡ slots
  pub among : may_answer ask (reply_of result []) ≡ true
  pub calm : is_calm (reply_of result []) ≡ true
  pub numbered : (g : Geometry) → IsNumbered g slots ask (reply_of result []) false
