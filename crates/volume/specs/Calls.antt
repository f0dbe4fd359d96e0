-- What a call does to a volume, by the flat table: the contract of every file call.
use Rattle.std.specs.Prelude.{◌≡◌, ◌≢◌, ◌⊎◌, ℕ, List, length, true, false, Some, None}
use Rattle.std.specs.Option.{is_some}
use Rattle.nor_core.specs.declared.state.NorState.{Ghosts as NorOf}
use Rattle.nor_core.specs.Count.{Rose}
use Rattle.nor_core.specs.Device.{Changes, OnlyReads}
use Rattle.table_model.specs.declared.error.FsErr.{FsErr}
use Rattle.table_model.specs.declared.error.FsErr.TheVariants.{Failed, DeviceFault, Damaged, Tight}
use Rattle.table_model.specs.declared.error.Differ.{Differ}
use Rattle.table_model.specs.Reply.{Answer, Fine, Gives, Refuses}
use Rattle.table_model.specs.Ask.{Ask, Collects}
use Rattle.table_model.specs.Steps.{is_refusal, steps}
use Rattle.table_model.specs.Window.{Moment, settled_at, leaves_window, incoming_of, continues}
use Rattle.image_model.specs.Tidy.{HasReserve, has_spare}
use Rattle.image_model.specs.Collect.{chosen_block}
use Rattle.trim_laws.specs.Upkeep.{Upkeep}
use Rattle.block_gc.specs.RoomMade.{IsReady}
use Rattle.call_model.specs.Memory.{IsAt}
use Rattle.call_model.specs.Calls.{Publishes, Answers}
use Rattle.volume.specs.declared.volume.Volume.{Volume}
use Rattle.volume.specs.Stages.{takes_calls, has_failed}
use Rattle.volume.specs.Same.{IsSameVolume}
use Rattle.fd_table.specs.Slots.{descriptors}
use Rattle.file_calls.specs.Replies.{is_of_slots, may_answer, is_change, is_write, keeps_slots}
use Rattle.file_calls.specs.Slots.{slots_fault}
use Rattle.file_calls.specs.Cleans.{index_taken, rest_taken, CleansFor, CleansInTurns, WritesNoTail}
use Rattle.volume.specs.Replies.{may_settle, breaks}
use Rattle.volume.specs.Holds.{memory, Holds}
use Rattle.volume.specs.Mapping.{KeepsMap}
use Rattle.volume.specs.Unchanged.{Unchanged}
use Rattle.volume.specs.Packed.{IsPackedNow}
use Rattle.file_calls.specs.Goes.{IsDoable, IsCornerOn, StopsShort, IsCollected, IsGiven}

module _ {N : Type 0} {nor : NorOf N} where
  -- bytes wait
  abbrev pub HasRun : Volume N nor → Type 0
  HasRun v = is_some (memory v).run ≡ true

  -- nothing waits
  abbrev pub HasNone : Volume N nor → Type 0
  HasNone v = (memory v).run ≡ None

  -- A volume stands where all is settled, with two free blocks; but no block can be cleaned any more, and there is no page for an index
  -- page.
  pub record StaysTight (old new : Volume N nor) (m : Moment) : Type 0 where
    pub stands : Holds new (settled_at m.state)
    pub reserve : HasReserve old.geometry (nor.bytes new.nor.now)
    pub none : chosen_block old.geometry (nor.bytes new.nor.now) ≡ None
    pub short : IsReady old.geometry (nor.bytes new.nor.now) 1 0 → ⊥

  -- What a call does. `old` and `new` are the volume before and after it. Every call but telling an offset and a write that goes on with
  -- what waits puts that onto the chip first.
  pub record Calls (ask : Ask) (old new : Volume N nor) (reply : Answer) : Type 0 where
    pub same : IsSameVolume old new
    -- what a cut leaves, of a volume that stands at a moment
    pub cuts : Changes nor old.nor.now new.nor.now (λ was image. (m : Moment) → Publishes old.geometry (memory old) m ask was image)
    -- where no header page named a page behind the last one of its file, none does, at a cut and after the call; and no erase count changes but
    -- by making blocks fresh, one after the other, each with the next count
    pub upkeep : Changes nor old.nor.now new.nor.now (λ was image. (m : Moment) → IsAt old.geometry was (memory old) m → Upkeep old.geometry was image)
    -- where the table of block counts stood, it stands after a call of a volume that stands at a moment, unless the device failed
    pub counted : (m : Moment) → takes_calls old ≡ true → Holds old m → ¬ (reply ≡ Refuses DeviceFault) → old.counted ≡ true → new.counted ≡ true
    -- the answer, where the device doesn't fail and garbage collection isn't stuck; refused where nothing waits, the call changes nothing
    pub answers : (m : Moment) → takes_calls old ≡ true → Holds old m → ¬ (reply ≡ Refuses DeviceFault) →
        ¬ StopsShort old.geometry (nor.bytes old.nor.now) m.state ask reply → Answers nor old.geometry old.nor.now new.nor.now (memory new) m ask reply
    pub refused : (m : Moment) → takes_calls old ≡ true → HasNone old → Holds old m → ¬ (reply ≡ Refuses DeviceFault) →
        ¬ StopsShort old.geometry (nor.bytes old.nor.now) m.state ask reply → is_refusal reply ≡ true → Unchanged old new
    -- where garbage collection stops
    pub collects : (m : Moment) → takes_calls old ≡ true → HasNone old → Holds old m → ask ≡ Collects →
        IsCollected old.geometry reply (nor.bytes old.nor.now) (nor.bytes new.nor.now) (nor.device_writes old.nor.now) (nor.device_writes new.nor.now)
    -- done, it leaves no block that is worth cleaning, also where bytes waited
    pub packed : (m : Moment) → takes_calls old ≡ true → Holds old m → ask ≡ Collects → reply ≡ Fine → IsPackedNow old.geometry (nor.bytes new.nor.now)
    -- with two free blocks collection isn't stuck
    pub unstuck : (m : Moment) → takes_calls old ≡ true → Holds old m → HasReserve old.geometry (nor.bytes old.nor.now) → ask ≡ Collects →
        reply ≡ Refuses Tight → ⊥
    -- Tight for want of a page for a cut, nothing is changed but where pages stand, and that what waited is on the chip
    pub cornered : (m : Moment) → takes_calls old ≡ true → Holds old m → IsCornerOn old.geometry (nor.bytes old.nor.now) m.state ask →
        reply ≡ Refuses Tight → StaysTight old new m
    -- telling an offset changes nothing, and a write that goes on with what waits asks nothing of the device
    pub leaves : takes_calls old ≡ true → leaves_window ask ≡ true → new ≡ old
    pub extends : (m : Moment) → takes_calls old ≡ true → Holds old m → continues old.geometry m.window (incoming_of m.state ask) ≡ true →
        new.nor.now ≡ old.nor.now
    -- a volume that takes no calls says so
    pub closed : takes_calls old ≡ false → (reply ≡ Refuses Failed) × (new.nor.now ≡ old.nor.now) × Unchanged old new
    -- a fault is told only where one was counted; of a page that reads otherwise two tags that differ, and never on a volume that
    -- stands at a moment
    pub cause : reply ≡ Refuses DeviceFault → Rose (nor.faults old.nor.now) (nor.faults new.nor.now)
    pub differs : (d : Differ) → reply ≡ Refuses (Damaged d) → d.wanted ≢ d.found
    pub undamaged : (m : Moment) → Holds old m → (d : Differ) → reply ≡ Refuses (Damaged d) → ⊥
    -- the sort of the answer, whatever the device tells; or what waits could not be put onto the chip
    pub among : takes_calls old ≡ true → (may_answer ask reply ≡ true) ⊎ (HasRun old × (may_settle reply ≡ true))
    pub brief : (bytes : List ℕ) → reply ≡ Gives bytes → IsGiven ask bytes
    -- what the arguments and the descriptors show refuses the call, whatever the device tells, and asks nothing of it where nothing waits; or
    -- what waits could not be put onto the chip; and nothing else is told as such a refusal
    pub numbered : takes_calls old ≡ true → (why : FsErr) → slots_fault old.geometry (descriptors old.slots.now) ask ≡ Some why →
        ((reply ≡ Refuses why) × (HasNone old → Unchanged old new × (new.nor.now ≡ old.nor.now))) ⊎ (HasRun old × (may_settle reply ≡ true))
    pub shown : takes_calls old ≡ true → (why : FsErr) → is_of_slots why ≡ true → reply ≡ Refuses why →
        slots_fault old.geometry (descriptors old.slots.now) ask ≡ Some why
    -- after a fault the volume has failed, or nothing is changed; it fails in no other call, and where nothing waits in none that the flat
    -- table refuses
    pub failed : breaks reply ≡ true → (has_failed new ≡ true) ⊎ Unchanged old new
    pub stays : (new.stage ≡ old.stage) ⊎ ((takes_calls old ≡ true) × (has_failed new ≡ true) × (breaks reply ≡ true))
    -- it fails only where the call has asked for a program or an erase, or has put what waited onto the chip
    pub asked : takes_calls old ≡ true → has_failed new ≡ true →
        Rose (nor.device_writes old.nor.now) (nor.device_writes new.nor.now) ⊎ (HasRun old × HasNone new)
    pub stops : (m : Moment) → takes_calls old ≡ true → takes_calls new ≡ false → Holds old m →
        HasRun old ⊎ IsDoable old.geometry (nor.bytes old.nor.now) m.state ask
    -- where nothing waits a call that only looks asks for no program and no erase, and one that only looks at descriptors leaves them
    pub looks : is_change ask ≡ false → HasNone old → OnlyReads nor old.nor.now new.nor.now × (new.stage ≡ old.stage)
    pub keeps : keeps_slots ask ≡ true → new.slots.now ≡ old.slots.now
    -- where nothing waits, a call that is neither a write nor garbage collection has a first part in which it cleans blocks: none there where the
    -- index page that it takes is had and two blocks are free, and each where that isn't so. From there on two free blocks stay free, and no block
    -- is made fresh; a call that takes no index page, such as a remove, cleans none
    pub cleans : (m : Moment) → takes_calls old ≡ true → HasNone old → Holds old m → is_write ask ≡ false → ask ≢ Collects →
        CleansFor nor old.geometry (index_taken ask) 0 (rest_taken old.geometry ask) old.nor.now new.nor.now (reply ≡ Refuses DeviceFault)
    -- and a write cleans in turns, which have no more data pages all together than it publishes steps, and one more where the tail of its file is
    -- to be made ready: each has such a first part, for two index pages and its data pages, sixteen at most, and no block is made fresh from
    -- there to the end of the turn
    pub turns : (m : Moment) → takes_calls old ≡ true → HasNone old → Holds old m → is_write ask ≡ true →
        CleansInTurns nor old.geometry (WritesNoTail old.geometry (nor.bytes old.nor.now) m.state ask)
        (length (steps old.geometry (has_spare old.geometry (nor.bytes old.nor.now)) m.state ask)) old.nor.now new.nor.now (reply ≡ Refuses DeviceFault)
    -- refused, or where the device failed, the descriptors stay
    pub still : is_refusal reply ≡ true → new.slots.now ≡ old.slots.now
    -- a write whose bytes begin to wait asks for no program and no erase
    pub begins : HasNone old → HasRun new → OnlyReads nor old.nor.now new.nor.now × (new.stage ≡ old.stage)
    -- refused where nothing waits, or where the device failed then, nothing waits after it
    pub empty : is_refusal reply ≡ true → HasNone old → HasNone new
    -- the map of a file stays that of the file
    pub maps : (m : Moment) → takes_calls old ≡ true → Holds old m → KeepsMap old new (breaks reply)
