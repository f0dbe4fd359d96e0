-- How the bytes that wait are put onto the chip.
use Rattle.std.specs.Prelude.{◌≡◌, ◌≢◌, ◌⊎◌, ◌+◌, [], length, Bool, true, false, Some, None, Result, Ok, Err, IsErr, IfOk, IfErr, OnOk, MatchResult}
use Rattle.std.specs.Option.{is_some}
use Rattle.nor_core.specs.declared.state.NorState.{Ghosts as NorOf}
use Rattle.nor_core.specs.Count.{Rose}
use Rattle.nor_core.specs.Device.{Changes}
use Rattle.table_model.specs.declared.error.FsErr.{FsErr}
use Rattle.table_model.specs.declared.error.FsErr.TheVariants.{DeviceFault, Damaged}
use Rattle.table_model.specs.declared.error.Differ.{Differ}
use Rattle.table_model.specs.Table.{File, file_of}
use Rattle.table_model.specs.Reply.{Refuses}
use Rattle.table_model.specs.Window.{Moment, settled_at, from_settled, IsAmong}
use Rattle.image_model.specs.Tables.{table_of}
use Rattle.call_model.specs.Safe.{IsSafe, HoldsImage}
use Rattle.call_model.specs.Memory.{IsAt}
use Rattle.trim_laws.specs.Upkeep.{Upkeep}
use Rattle.write_window.specs.Runs.{Run}
use Rattle.file_calls.specs.Cleans.{CleansInTurns, NeedsNoTail, part_count}
use Rattle.volume.specs.declared.volume.Volume.{Volume}
use Rattle.volume.specs.Stages.{takes_calls, has_failed}
use Rattle.volume.specs.Same.{IsSameVolume}
use Rattle.volume.specs.Replies.{breaks, may_settle}
use Rattle.volume.specs.Holds.{memory, Holds}
use Rattle.volume.specs.Unchanged.{Unchanged}

-- how settling went, apart from whether anything waited
abbrev pub without_had : Result Bool FsErr → Result (Unit {0}) FsErr
without_had (Ok had) = Ok tt
without_had (Err why) = Err why

module _ {N : Type 0} {nor : NorOf N} where
  -- why the bytes are not on the chip: the device failed, a page reads otherwise, or there is too little room
  pub record StopsSettling (old new : Volume N nor) (why : FsErr) : Type 0 where
    pub among : may_settle (Refuses why) ≡ true
    pub cause : why ≡ DeviceFault → Rose (nor.faults old.nor.now) (nor.faults new.nor.now)
    pub differs : (d : Differ) → why ≡ Damaged d → d.wanted ≢ d.found
    -- after a fault the volume has failed, or nothing is changed
    pub failed : breaks (Refuses why) ≡ true → (has_failed new ≡ true) ⊎ Unchanged old new
    pub asked : takes_calls old ≡ true → has_failed new ≡ true → Rose (nor.device_writes old.nor.now) (nor.device_writes new.nor.now)
    pub stays : (new.stage ≡ old.stage) ⊎ ((has_failed new ≡ true) × (breaks (Refuses why) ≡ true))

  -- What settling does to a volume that takes calls: the bytes that wait are put onto the chip, and it tells whether there were any.
  pub record Settles (old new : Volume N nor) (result : Result Bool FsErr) : Type 0 where
    pub same : IsSameVolume old new
    pub slots : new.slots.now ≡ old.slots.now
    -- a cut leaves a table that waited
    pub cuts : Changes nor old.nor.now new.nor.now (λ was image. (m : Moment) → IsAt old.geometry was (memory old) m →
        IsSafe old.geometry was image × IsAmong (table_of old.geometry image) (from_settled m []))
    -- where no header page named a page behind the last one of its file, none does, at a cut and after the call; and no erase count changes but
    -- by making blocks fresh, one after the other, each with the next count
    pub upkeep : Changes nor old.nor.now new.nor.now (λ was image. (m : Moment) → IsAt old.geometry was (memory old) m → Upkeep old.geometry was image)
    -- where the table of block counts stood, it stands once this is done, of a volume that stands at a moment
    pub counted : (m : Moment) → Holds old m → OnOk result (old.counted ≡ true → new.counted ≡ true)
    pub done : IfOk result (λ had. (new.stage ≡ old.stage) × ((memory new).run ≡ None) × (had ≡ is_some (memory old).run))
    pub stops : IfErr result (StopsSettling old new)
    -- where nothing waits nothing is done
    pub idle : (memory old).run ≡ None → (result ≡ Ok false) × (new ≡ old)
    -- a volume that stands at a moment stands where all is settled, unless the device failed
    pub stands : (m : Moment) → Holds old m →
        MatchResult result (λ had. Holds new (settled_at m.state) × HoldsImage old.geometry (nor.bytes old.nor.now) (nor.bytes new.nor.now))
        (λ why. why ≡ DeviceFault)
    -- blocks are cleaned in turns, as for a write of the bytes into their file: one for each part at most, and one more where its tail is to be made
    -- ready
    pub turns : (m : Moment) (r : Run) (f : File) → Holds old m → (memory old).run ≡ Some r → file_of r.id m.settled ≡ Some f →
        CleansInTurns nor old.geometry (NeedsNoTail r.id (length f.bytes) (r.start + length r.bytes) old.geometry (nor.bytes old.nor.now))
        (part_count old.geometry (length f.bytes) r.start (length r.bytes)) old.nor.now new.nor.now (IsErr result)

  -- the same, apart from whether anything waited
  pub record SettledOr (old new : Volume N nor) (result : Result (Unit {0}) FsErr) : Type 0 where
    pub had : Result Bool FsErr
    pub settles : Settles old new had
    pub is : result ≡ without_had had
