-- What a call does to a device, descriptors and window on which nothing waits.
use Rattle.std.specs.Prelude.{◌≡◌, List, Bool, true, false, Option, Some, None}
use Rattle.std.specs.Option.{is_some}
use Rattle.geometry.specs.declared.geometry.Geometry.{Geometry}
use Rattle.nor_core.specs.declared.state.NorState.{Ghosts as NorOf}
use Rattle.nor_core.specs.Device.{OnlyReads}
use Rattle.table_model.specs.declared.error.FsErr.{FsErr}
use Rattle.table_model.specs.declared.error.FsErr.TheVariants.{DeviceFault}
use Rattle.table_model.specs.Table.{State}
use Rattle.table_model.specs.Reply.{Answer, Refuses}
use Rattle.table_model.specs.Ask.{Ask}
use Rattle.table_model.specs.Flat.{answer}
use Rattle.table_model.specs.Steps.{is_refusal}
use Rattle.table_model.specs.Window.{after, settled_at}
use Rattle.image_model.specs.Tidy.{HasReserve, has_spare}
use Rattle.write_window.specs.Runs.{Run}
use Rattle.call_model.specs.Calls.{Stands}
use Rattle.fd_table.specs.declared.slot.FdSlot.{FdSlot}
use Rattle.fd_table.specs.Slots.{descriptors}
use Rattle.file_calls.specs.Slots.{slots_fault}
use Rattle.file_calls.specs.States.{IsImageOf}
use Rattle.file_calls.specs.Goes.{Does, StopsShort}

-- A call is answered as the flat table is, and device, descriptors and window are those of the moment after it; where two blocks were
-- free two are, and refused it has only read.
pub record Arrives {D : Type 0} (nor : NorOf D) (g : Geometry) (old new : D) (slots : List FdSlot) (run : Option Run) (s : State) (ask : Ask)
    (reply : Answer) : Type 0 where
  pub reply_is : reply ≡ (answer g (has_spare g (nor.bytes old)) s ask).answer
  pub stands : Stands nor g new (record { slots = descriptors slots; run = run }) (after g (has_spare g (nor.bytes old)) (settled_at s) ask)
  pub reserve : HasReserve g (nor.bytes old) → HasReserve g (nor.bytes new)
  pub reads : is_refusal reply ≡ true → OnlyReads nor old new

-- What a call does where nothing waits. `run` is what waits after it; `wrote` says whether a program or an erase was asked for.
pub record Acts {D : Type 0} (nor : NorOf D) (g : Geometry) (ask : Ask) (old new : D) (slots last : List FdSlot) (run : Option Run) (wrote : Bool)
    (reply : Answer) : Type 0 where
  pub does : Does nor g ask old new slots last wrote reply
  pub answers : (s : State) → IsImageOf nor g old slots s → ¬ (reply ≡ Refuses DeviceFault) → ¬ StopsShort g (nor.bytes old) s ask reply →
      Arrives nor g old new last run s ask reply
  -- refused, or where the device failed, nothing waits
  pub empty : is_refusal reply ≡ true → run ≡ None
  -- written bytes that wait asked for no program and no erase
  pub waits : is_some run ≡ true → wrote ≡ false

-- So it acts; and refused for what its arguments and the descriptors show it asks nothing of the device, not even a read.
pub record ActsQuietly {D : Type 0} (nor : NorOf D) (g : Geometry) (ask : Ask) (old new : D) (slots last : List FdSlot) (run : Option Run)
    (wrote : Bool) (reply : Answer) : Type 0 where
  pub acts : Acts nor g ask old new slots last run wrote reply
  pub quiet : (why : FsErr) → slots_fault g (descriptors slots) ask ≡ Some why → new ≡ old
