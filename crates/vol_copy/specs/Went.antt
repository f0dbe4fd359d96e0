-- How a call of the target went.
use Rattle.std.specs.Prelude.{◌≡◌, ℕ, List, length, Bool, true, false, nat_lt, if◌then◌else◌, Option, Some, None, Result, Ok, Err}
use Rattle.nor_core.specs.declared.state.NorState.{Ghosts as NorOf}
use Rattle.table_model.specs.declared.error.FsErr.{FsErr}
use Rattle.table_model.specs.declared.error.FsErr.TheVariants.{NotFound, Full as NoRoom, DeviceFault, Damaged}
use Rattle.table_model.specs.declared.reply.Stat.{Stat}
use Rattle.table_model.specs.declared.reply.Info.{Info}
use Rattle.table_model.specs.Ask.{Ask}
use Rattle.table_model.specs.Reply.{Answer, Fine, Tells, Gives, Shows, Counts, Refuses}
use Rattle.volume.specs.declared.volume.Volume.{Volume}
use Rattle.volume_run.specs.Resting.{Rested}
use Rattle.copy_model.specs.declared.err.CopyErr.{CopyErr}
use Rattle.copy_model.specs.declared.err.CopyErr.TheVariants.{ToFault, Damaged as AsDamaged, Refused}

-- why a copy stops at a call that was refused
abbrev pub stop_as : FsErr → CopyErr
stop_as DeviceFault = ToFault
stop_as (Damaged differ) = AsDamaged differ
stop_as _ = Refused

-- a call that tells nothing
abbrev pub done_as : Answer → Result (Unit {0}) CopyErr
done_as Fine = Ok tt
done_as (Refuses why) = Err (stop_as why)
done_as _ = Err Refused

-- a removal, where a missing file is fine
abbrev pub removed_as : Answer → Result (Unit {0}) CopyErr
removed_as Fine = Ok tt
removed_as (Refuses NotFound) = Ok tt
removed_as (Refuses why) = Err (stop_as why)
removed_as _ = Err Refused

-- a look for a file's record, which may be missing
abbrev pub stat_as : Answer → Result (Option Stat) CopyErr
stat_as (Shows stat) = Ok (Some stat)
stat_as (Refuses NotFound) = Ok None
stat_as (Refuses why) = Err (stop_as why)
stat_as _ = Err Refused

-- a look how full the volume is
abbrev pub info_as : Answer → Result Info CopyErr
info_as (Counts info) = Ok info
info_as (Refuses why) = Err (stop_as why)
info_as _ = Err Refused

-- an opening: the descriptor, or None for want of room
abbrev pub opened_as : Answer → Result (Option ℕ) CopyErr
opened_as (Tells fd) = if nat_lt fd 65536 then Ok (Some fd) else Err Refused
opened_as (Refuses NoRoom) = Ok None
opened_as (Refuses why) = Err (stop_as why)
opened_as _ = Err Refused

-- a write: whether there was room
abbrev pub wrote_as : Answer → Result Bool CopyErr
wrote_as (Tells n) = Ok true
wrote_as (Refuses NoRoom) = Ok false
wrote_as (Refuses why) = Err (stop_as why)
wrote_as _ = Err Refused

-- why a read that is to give so many bytes doesn't
abbrev pub read_stop : ℕ → Answer → Option CopyErr
read_stop count (Gives bytes) = if nat_lt (length bytes) count then Some Refused else None
read_stop count (Refuses why) = Some (stop_as why)
read_stop count _ = Some Refused

-- how such a read goes that leaves these bytes
abbrev pub ReadsAs : (into : List ℕ) (reply : Answer) → Result (Unit {0}) CopyErr → Type 0
ReadsAs into reply (Ok done) = reply ≡ Gives into
ReadsAs into reply (Err why) = read_stop (length into) reply ≡ Some why

module _ {M : Type 0} {nor : NorOf M} where
  -- a call was answered, and went so
  abbrev pub Went : {X : Type 0} → (Answer → X) → Ask → (old new : Volume M nor) → X → Type 0
  Went how ask old new result = (reply : Answer) × Rested ask old new reply × (result ≡ how reply)
