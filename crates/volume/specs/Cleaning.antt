-- What a collection with an aim does to a volume: a step for idle time, or making room for the pages of a file.
use Rattle.std.specs.Prelude.{◌≡◌, ◌≢◌, ◌⊎◌, ℕ, List, [], ◌+◌, length, Bool, true, false, ◌||◌, Some, None, Result, Ok, Err, OnOk, IfErr, IsErrOf, MatchResult}
use Rattle.geometry.specs.declared.geometry.Geometry.{Geometry}
use Rattle.nor_core.specs.declared.state.NorState.{Ghosts as NorOf}
use Rattle.nor_core.specs.Count.{Rose}
use Rattle.nor_core.specs.Device.{Changes, OnlyReads}
use Rattle.table_model.specs.declared.error.FsErr.{FsErr}
use Rattle.table_model.specs.declared.error.FsErr.TheVariants.{Failed, DeviceFault, Damaged, Full}
use Rattle.table_model.specs.declared.error.Differ.{Differ}
use Rattle.table_model.specs.Table.{File, file_of}
use Rattle.table_model.specs.Room.{index_pages, data_pages}
use Rattle.table_model.specs.Reply.{Fine, Refuses}
use Rattle.table_model.specs.Window.{Moment, settled_at, from_settled, IsAmong}
use Rattle.image_model.specs.Tables.{table_of}
use Rattle.image_model.specs.Tidy.{IsTidy, HasReserve}
use Rattle.room_laws.specs.Stopping.{CanClean, HasRoomFor}
use Rattle.trim_laws.specs.Upkeep.{Upkeep}
use Rattle.flash_view.specs.declared.kinds.StepErr.{StepErr}
use Rattle.flash_view.specs.declared.kinds.StepErr.TheVariants.{DeviceFault as StepFault}
use Rattle.flash_view.specs.Steps.{Step as Stage, is_apart, as_fs_err}
use Rattle.block_gc.specs.RoomMade.{MadeRoom, IsTight, SteppedOrNone}
use Rattle.call_model.specs.Safe.{IsSafe, HoldsImage}
use Rattle.call_model.specs.Memory.{IsAt}
use Rattle.write_window.specs.Runs.{Run}
use Rattle.file_calls.specs.Collecting.{RoomCut}
use Rattle.file_calls.specs.Cleans.{SweptFor, CleansInTurns, NeedsNoTail, part_count}
use Rattle.volume.specs.declared.collecting.Aim.{Aim}
use Rattle.volume.specs.declared.collecting.Aim.TheVariants.{Step, Room}
use Rattle.volume.specs.declared.volume.Volume.{Volume}
use Rattle.volume.specs.Opening.{stage_after}
use Rattle.volume.specs.Stages.{takes_calls, has_failed}
use Rattle.volume.specs.Same.{IsSameVolume}
use Rattle.volume.specs.Replies.{told, breaks, may_settle}
use Rattle.volume.specs.Holds.{memory, Holds}
use Rattle.volume.specs.Mapping.{KeepsMap}
use Rattle.volume.specs.Unchanged.{Unchanged}

-- Where an aim leads. A step cleans blocks, or there is none to be cleaned and nothing is changed. Room for pages is made, or no block can be cleaned
-- any more and it isn't; then the blocks don't hold the table with so many more pages, if the first image could be cleaned. By the counts of
-- programs and erases before and after.
abbrev pub LeadsTo : Geometry → Aim → Bool → (before after : ℕ) → (was now : List ℕ) → Type 0
LeadsTo g Step cleaned before after was now = SteppedOrNone g cleaned before after was now
LeadsTo g (Room index pages) true before after was now = MadeRoom g index pages was now × SweptFor g index pages was now before after
LeadsTo g (Room index pages) false before after was now =
    IsTight g index pages was now × SweptFor g index pages was now before after × (CanClean g was → HasRoomFor g was index pages → ⊥)

-- The image is tidy then, and two blocks stay free where two were.
pub record AimedAt (g : Geometry) (aim : Aim) (did : Bool) (before after : ℕ) (was now : List ℕ) : Type 0 where
  pub leads : LeadsTo g aim did before after was now
  pub tidy : IsTidy g now
  pub reserve : HasReserve g was → HasReserve g now

abbrev pub aiming : Aim → (before after : ℕ) → Stage Bool
aiming aim before after = record { needs = IsTidy; cut = RoomCut; done = λ g was now did. AimedAt g aim did before after was now }

-- What a collection does to a device. `wrote` says whether a program or an erase was asked for.
pub record CleansOn {D : Type 0} (nor : NorOf D) (g : Geometry) (aim : Aim) (old new : D) (wrote : Bool) (result : Result Bool StepErr) : Type 0 where
  pub untouched : wrote ≡ false → OnlyReads nor old new
  pub cause : IsErrOf result StepFault → Rose (nor.faults old) (nor.faults new)
  pub means : IfErr result is_apart
  pub cuts : Changes nor old new (λ was image. IsTidy g was → RoomCut g was image)
  pub upkeep : Changes nor old new (λ was image. IsTidy g was → Upkeep g was image)
  pub ends : nor.tells old → IsTidy g (nor.bytes old) →
      MatchResult result (λ did. AimedAt g aim did (nor.device_writes old) (nor.device_writes new) (nor.bytes old) (nor.bytes new)) (λ why. why ≡ StepFault)

-- .. and to the table of block counts: it stands where it stood
abbrev pub StaysCounted : {D : Type 0} → NorOf D → Geometry → (old : D) → (was now : Bool) → Result Bool StepErr → Type 0
StaysCounted nor g old was now result = nor.tells old → IsTidy g (nor.bytes old) → was ≡ true → OnOk result (now ≡ true)

-- how a call is answered whose collection went so
abbrev pub told_as : Result Bool StepErr → Result Bool FsErr
told_as (Ok did) = Ok did
told_as (Err why) = Err (as_fs_err why)

-- how room for a file is told: Full where it isn't had
abbrev pub or_full : Result Bool FsErr → Result (Unit {0}) FsErr
or_full (Ok true) = Ok tt
or_full (Ok false) = Err Full
or_full (Err why) = Err why

module _ {N : Type 0} {nor : NorOf N} where
  -- What a collection does to a volume on which nothing waits. `had` says whether bytes waited when the call began.
  pub record CleansSettled (had : Bool) (aim : Aim) (old new : Volume N nor) (result : Result Bool FsErr) : Type 0 where
    pub wrote : Bool
    pub first : Result Bool StepErr
    pub is : result ≡ told_as first
    pub cleans : CleansOn nor old.geometry aim old.nor.now new.nor.now wrote first
    pub asked : wrote ≡ true → Rose (nor.device_writes old.nor.now) (nor.device_writes new.nor.now)
    pub slots : new.slots.now ≡ old.slots.now
    pub run : (memory new).run ≡ (memory old).run
    pub stage : new.stage ≡ stage_after (had || wrote) (told (λ did. Fine) result)
    pub counted : StaysCounted nor old.geometry old.nor.now old.counted new.counted first

  -- The bytes that waited were put onto the chip, up to where the device is `settled`, and from there on the aim led on.
  pub record CleanedFrom (aim : Aim) (did : Bool) (m : Moment) (old new : Volume N nor) : Type 0 where
    pub settled : N
    pub first : (memory old).run ≡ None → settled ≡ old.nor.now
    -- up to there blocks are cleaned in turns, as for a write of the bytes into their file
    pub turns : (r : Run) (f : File) → (memory old).run ≡ Some r → file_of r.id m.settled ≡ Some f →
        CleansInTurns nor old.geometry (NeedsNoTail r.id (length f.bytes) (r.start + length r.bytes) old.geometry (nor.bytes old.nor.now))
        (part_count old.geometry (length f.bytes) r.start (length r.bytes)) old.nor.now settled ⊥
    pub leads : LeadsTo old.geometry aim did (nor.device_writes settled) (nor.device_writes new.nor.now) (nor.bytes settled) (nor.bytes new.nor.now)

  -- What a collection with an aim does to a volume: the bytes that wait are put onto the chip, and then blocks are cleaned.
  pub record CleansTo (aim : Aim) (old new : Volume N nor) (result : Result Bool FsErr) : Type 0 where
    pub same : IsSameVolume old new
    pub slots : new.slots.now ≡ old.slots.now
    -- a cut leaves a table that waited
    pub cuts : Changes nor old.nor.now new.nor.now (λ was image. (m : Moment) → IsAt old.geometry was (memory old) m →
        IsSafe old.geometry was image × IsAmong (table_of old.geometry image) (from_settled m []))
    -- where no header page named a page behind the last one of its file, none does, at a cut and after the call; and no erase count changes but
    -- by making blocks fresh, one after the other, each with the next count
    pub upkeep : Changes nor old.nor.now new.nor.now (λ was image. (m : Moment) → IsAt old.geometry was (memory old) m → Upkeep old.geometry was image)
    -- where the table of block counts stood, it stands once this is done, of a volume that stands at a moment
    pub counted : (m : Moment) → takes_calls old ≡ true → Holds old m → OnOk result (old.counted ≡ true → new.counted ≡ true)
    -- a volume that stands at a moment stands where all is settled, and the aim led there, unless the device failed
    pub done : (m : Moment) → takes_calls old ≡ true → Holds old m →
        MatchResult result
        (λ did. Holds new (settled_at m.state) × HoldsImage old.geometry (nor.bytes old.nor.now) (nor.bytes new.nor.now) × CleanedFrom aim did m old new)
        (λ why. why ≡ DeviceFault)
    -- one that takes no calls is left as it is
    pub closed : takes_calls old ≡ false → (result ≡ Err Failed) × (new ≡ old)
    pub among : takes_calls old ≡ true → IfErr result (λ why. may_settle (Refuses why) ≡ true)
    pub cause : result ≡ Err DeviceFault → Rose (nor.faults old.nor.now) (nor.faults new.nor.now)
    pub differs : (d : Differ) → result ≡ Err (Damaged d) → d.wanted ≢ d.found
    -- after a fault the volume has failed, or nothing is changed
    pub failed : IfErr result (λ why. breaks (Refuses why) ≡ true → (has_failed new ≡ true) ⊎ Unchanged old new)
    pub asked : takes_calls old ≡ true → has_failed new ≡ true →
        Rose (nor.device_writes old.nor.now) (nor.device_writes new.nor.now) ⊎ (((memory old).run ≡ None → ⊥) × ((memory new).run ≡ None))
    pub stays : (new.stage ≡ old.stage) ⊎ (has_failed new ≡ true)
    -- done, nothing waits, and it takes calls as before
    pub empty : takes_calls old ≡ true → OnOk result ((memory new).run ≡ None)
    pub goes_on : takes_calls old ≡ true → OnOk result (new.stage ≡ old.stage)
    -- the map of a file stays that of the file
    pub maps : (m : Moment) → takes_calls old ≡ true → Holds old m → KeepsMap old new (breaks (told (λ did. Fine) result))

  -- What making room for a file of so many bytes does: for its index pages and data pages. Full where they aren't had.
  pub record MakesRoom (bytes : ℕ) (old new : Volume N nor) (result : Result (Unit {0}) FsErr) : Type 0 where
    pub had : Result Bool FsErr
    pub cleans : CleansTo (Room (index_pages old.geometry bytes) (data_pages old.geometry bytes)) old new had
    pub is : result ≡ or_full had
