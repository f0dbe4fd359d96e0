-- What a scrub step does to a volume.
use Rattle.std.specs.Prelude.{◌≡◌, ◌≢◌, ◌⊎◌, ℕ, ◌≤◌, List, [], Bool, true, false, ◌||◌, None, Result, Ok, Err, OnOk, IfOk, IfErr, IsErrOf, MatchResult}
use Rattle.geometry.specs.declared.geometry.Geometry.{Geometry}
use Rattle.nor_core.specs.declared.state.NorState.{Ghosts as NorOf}
use Rattle.nor_core.specs.Count.{Rose}
use Rattle.nor_core.specs.Device.{Changes, OnlyReads}
use Rattle.table_model.specs.declared.error.FsErr.{FsErr}
use Rattle.table_model.specs.declared.error.FsErr.TheVariants.{Failed, DeviceFault, Damaged}
use Rattle.table_model.specs.declared.error.Differ.{Differ}
use Rattle.table_model.specs.Reply.{Fine, Refuses}
use Rattle.table_model.specs.Window.{Moment, settled_at, from_settled, IsAmong}
use Rattle.image_model.specs.Tables.{table_of}
use Rattle.image_model.specs.Tidy.{IsTidy}
use Rattle.flash_view.specs.declared.kinds.StepErr.{StepErr}
use Rattle.flash_view.specs.declared.kinds.StepErr.TheVariants.{DeviceFault as StepFault}
use Rattle.flash_view.specs.Steps.{is_apart, as_fs_err}
use Rattle.call_model.specs.Safe.{IsSafe, HoldsImage}
use Rattle.call_model.specs.Memory.{IsAt}
use Rattle.wear_scrub.specs.declared.scrubs.Scrub.{Scrub}
use Rattle.wear_scrub.specs.Scrubs.{IsLevel, ScrubCut, ScrubDone, IsAtRest}
use Rattle.volume.specs.declared.volume.Volume.{Volume}
use Rattle.volume.specs.Opening.{stage_after}
use Rattle.volume.specs.Stages.{takes_calls, has_failed}
use Rattle.volume.specs.Same.{IsSameVolume}
use Rattle.volume.specs.Replies.{told, breaks, may_settle}
use Rattle.volume.specs.Holds.{memory, Holds}
use Rattle.volume.specs.Mapping.{KeepsMap}
use Rattle.volume.specs.Unchanged.{Unchanged}

-- One step was made from the image and the count of programs and erases where all is settled: the first ones, where nothing waited.
pub record ScrubbedFrom (g : Geometry) (limit : ℕ) (idle : Type 0) (before after : ℕ) (old new : List ℕ) (scrub : Scrub) : Type 0 where
  pub settled : List ℕ
  pub count : ℕ
  pub first : idle → (settled ≡ old) × (count ≡ before)
  pub step : ScrubDone g limit count after settled new scrub

-- What a step does to a device. `wrote` says whether a program or an erase was asked for.
pub record ScrubsOn {D : Type 0} (nor : NorOf D) (g : Geometry) (limit : ℕ) (old new : D) (wrote : Bool) (result : Result Scrub StepErr) : Type 0 where
  pub untouched : wrote ≡ false → OnlyReads nor old new
  pub cause : IsErrOf result StepFault → Rose (nor.faults old) (nor.faults new)
  pub means : IfErr result is_apart
  pub cuts : Changes nor old new (λ was image. IsTidy g was → ScrubCut g was image)
  pub ends : nor.tells old → IsTidy g (nor.bytes old) →
      MatchResult result (ScrubDone g limit (nor.device_writes old) (nor.device_writes new) (nor.bytes old) (nor.bytes new)) (λ why. why ≡ StepFault)
  pub rest : nor.tells old → IsTidy g (nor.bytes old) → IsLevel g (nor.bytes old) limit → OnlyReads nor old new

-- how a call is answered whose step went so
abbrev pub told_as : Result Scrub StepErr → Result Scrub FsErr
told_as (Ok scrub) = Ok scrub
told_as (Err why) = Err (as_fs_err why)

module _ {N : Type 0} {nor : NorOf N} where
  -- What a step does to a volume on which nothing waits. `had` says whether bytes waited when the call began.
  pub record ScrubsSettled (had : Bool) (limit : ℕ) (old new : Volume N nor) (result : Result Scrub FsErr) : Type 0 where
    pub wrote : Bool
    pub first : Result Scrub StepErr
    pub is : result ≡ told_as first
    pub scrubs : ScrubsOn nor old.geometry limit old.nor.now new.nor.now wrote first
    pub asked : wrote ≡ true → Rose (nor.device_writes old.nor.now) (nor.device_writes new.nor.now)
    pub slots : new.slots.now ≡ old.slots.now
    pub run : (memory new).run ≡ (memory old).run
    pub stage : new.stage ≡ stage_after (had || wrote) (told (λ scrub. Fine) result)

  -- What a scrub does to a volume: the bytes that wait are put onto the chip, and then one step is made.
  pub record Scrubs (limit : ℕ) (old new : Volume N nor) (result : Result Scrub FsErr) : Type 0 where
    pub same : IsSameVolume old new
    pub slots : new.slots.now ≡ old.slots.now
    -- a cut leaves a table that waited
    pub cuts : Changes nor old.nor.now new.nor.now (λ was image. (m : Moment) → IsAt old.geometry was (memory old) m →
        IsSafe old.geometry was image × IsAmong (table_of old.geometry image) (from_settled m []))
    -- a volume that stands at a moment stands where all is settled, and one step was made from there, unless the device failed
    pub done : (m : Moment) → takes_calls old ≡ true → Holds old m →
        MatchResult result
        (λ scrub. Holds new (settled_at m.state) × HoldsImage old.geometry (nor.bytes old.nor.now) (nor.bytes new.nor.now)
        × ScrubbedFrom old.geometry limit ((memory old).run ≡ None) (nor.device_writes old.nor.now) (nor.device_writes new.nor.now) (nor.bytes old.nor.now)
        (nor.bytes new.nor.now) scrub)
        (λ why. why ≡ DeviceFault)
    -- one that takes no calls is left as it is
    pub closed : takes_calls old ≡ false → (result ≡ Err Failed) × (new ≡ old)
    pub among : takes_calls old ≡ true → IfErr result (λ why. may_settle (Refuses why) ≡ true)
    pub cause : result ≡ Err DeviceFault → Rose (nor.faults old.nor.now) (nor.faults new.nor.now)
    pub differs : (d : Differ) → result ≡ Err (Damaged d) → d.wanted ≢ d.found
    -- after a fault the volume has failed, or nothing is changed
    pub failed : IfErr result (λ why. breaks (Refuses why) ≡ true → (has_failed new ≡ true) ⊎ Unchanged old new)
    pub asked : takes_calls old ≡ true → has_failed new ≡ true →
        Rose (nor.device_writes old.nor.now) (nor.device_writes new.nor.now) ⊎ (((memory old).run ≡ None → ⊥) × ((memory new).run ≡ None))
    pub stays : (new.stage ≡ old.stage) ⊎ (has_failed new ≡ true)
    -- done, nothing waits, and it takes calls as before
    pub empty : takes_calls old ≡ true → OnOk result ((memory new).run ≡ None)
    pub goes_on : takes_calls old ≡ true → OnOk result (new.stage ≡ old.stage)
    -- where nothing waited and no block is old enough the device is only read
    pub rest : (m : Moment) → takes_calls old ≡ true → (memory old).run ≡ None → Holds old m → IsLevel old.geometry (nor.bytes old.nor.now) limit →
        IfOk result (λ scrub. OnlyReads nor old.nor.now new.nor.now)
    -- nor is anything programmed or erased where one is, but none that is may be moved, and no block is worth cleaning
    pub quiet : (m : Moment) → takes_calls old ≡ true → (memory old).run ≡ None → Holds old m → IsAtRest old.geometry (nor.bytes old.nor.now) limit →
        IfOk result (λ scrub. nor.device_writes new.nor.now ≤ nor.device_writes old.nor.now)
    -- the map of a file stays that of the file
    pub maps : (m : Moment) → takes_calls old ≡ true → Holds old m → KeepsMap old new (breaks (told (λ scrub. Fine) result))
