-- Calls that begin once nothing waits.
use Rattle.std.specs.Prelude.{◌≡◌, Bool, true, false, ◌||◌, Some}
use Rattle.nor_core.specs.declared.state.NorState.{Ghosts as NorOf}
use Rattle.nor_core.specs.Count.{Rose}
use Rattle.table_model.specs.declared.error.FsErr.{FsErr}
use Rattle.table_model.specs.Reply.{Answer}
use Rattle.table_model.specs.Ask.{Ask, Fills}
use Rattle.table_model.specs.Window.{Moment, incoming_of, continues}
use Rattle.volume.specs.declared.volume.Volume.{Volume}
use Rattle.volume.specs.Opening.{stage_after}
use Rattle.volume.specs.Holds.{memory, Holds}
use Rattle.file_calls.specs.Goes.{StandsOn}
use Rattle.volume.specs.Acts.{Acts}
use Rattle.fd_table.specs.Slots.{descriptors}
use Rattle.file_calls.specs.Slots.{slots_fault}

-- a fill, which is done as the write of its bytes
abbrev pub is_fill : Ask → Bool
is_fill (Fills fd count byte) = true
is_fill _ = false

module _ {N : Type 0} {nor : NorOf N} where
  -- a call doesn't go on with what waits
  abbrev pub GoesOnNot : Volume N nor → Ask → Type 0
  GoesOnNot v ask = (m : Moment) → Holds v m → continues v.geometry m.window (incoming_of m.state ask) ≡ false

  -- What a call does to a volume on which nothing waits. `had` says whether bytes waited when it began.
  pub record ActsOn (had : Bool) (ask : Ask) (old new : Volume N nor) (reply : Answer) : Type 0 where
    pub wrote : Bool
    pub acts : Acts nor old.geometry ask old.nor.now new.nor.now old.slots.now new.slots.now (memory new).run wrote reply
    pub asked : wrote ≡ true → Rose (nor.device_writes old.nor.now) (nor.device_writes new.nor.now)
    pub stage : new.stage ≡ stage_after (had || wrote) reply
    -- refused for what its arguments and the descriptors show it asks nothing of the device, if nothing waited
    pub quiet : had ≡ false → (why : FsErr) → slots_fault old.geometry (descriptors old.slots.now) ask ≡ Some why → new.nor.now ≡ old.nor.now
    pub counted : StandsOn nor old.geometry old.nor.now old.slots.now reply old.counted new.counted
