-- What the calls of maps do to a volume.
use Rattle.std.specs.Prelude.{◌≡◌, ◌≢◌, ◌⊎◌, ℕ, ℤ, negsuc, ◌+◌, ◌≤◌, List, [], length, Bool, true, false, Option, Some, None, Result, Ok, Err, IfErr, nat_lt}
use Rattle.std.specs.Prelude.{◌&&◌, if◌then◌else◌}
use Rattle.geometry.specs.Numbers.{body}
use Rattle.nor_core.specs.declared.state.NorState.{Ghosts as NorOf}
use Rattle.nor_core.specs.Count.{Rose}
use Rattle.nor_core.specs.Device.{Changes}
use Rattle.table_model.specs.declared.error.Differ.{Differ}
use Rattle.table_model.specs.declared.error.FsErr.{FsErr}
use Rattle.table_model.specs.declared.error.FsErr.TheVariants.{Failed, DeviceFault, BadDescriptor, NotFound, Damaged}
use Rattle.table_model.specs.Numbers.{number_of}
use Rattle.table_model.specs.Table.{File, Open, State, file_of, has_id}
use Rattle.table_model.specs.Descriptors.{open_at}
use Rattle.table_model.specs.Reply.{Answer, Fine, Refuses}
use Rattle.table_model.specs.Window.{Moment, settled_at, from_settled, IsAmong}
use Rattle.image_model.specs.Tables.{table_of}
use Rattle.call_model.specs.Safe.{IsSafe}
use Rattle.call_model.specs.Memory.{IsAt}
use Rattle.file_read.specs.Whole.{IsRead}
use Rattle.ix_map.specs.Maps.{spans_in, number_at}
use Rattle.ix_map.specs.Covers.{given, covers, pages_met}
use Rattle.volume.specs.declared.volume.Volume.{Volume}
use Rattle.volume.specs.declared.map_calls.MapErr.{MapErr}
use Rattle.volume.specs.declared.map_calls.MapErr.TheVariants.{Call, NoMap, NotMapped, MapBusy}
use Rattle.volume.specs.declared.map_calls.MapRefusal.{MapRefusal}
use Rattle.volume.specs.Stages.{takes_calls, has_failed}
use Rattle.volume.specs.Replies.{breaks}
use Rattle.volume.specs.Same.{IsSameVolume}
use Rattle.volume.specs.Holds.{memory, Holds}
use Rattle.volume.specs.Unchanged.{Unchanged}
use Rattle.volume.specs.Calls.{HasNone}
use Rattle.volume.specs.Mapping.{is_attached, KeepsMap}

-- the number of a refusal: `negsuc n` is -(n + 1)
abbrev pub map_number : MapErr → ℤ
map_number (Call why) = number_of why
map_number NoMap = negsuc 11008
map_number NotMapped = negsuc 11009
map_number MapBusy = negsuc 11010

-- P holds of what was given, or the device failed
abbrev pub GivesOrFault : {T : Type 0} → Result T MapErr → (T → Type 0) → Type 0
GivesOrFault (Ok x) P = P x
GivesOrFault (Err (Call DeviceFault)) P = Unit {0}
GivesOrFault (Err _) P = ⊥

-- why it is refused, or None
abbrev pub why_not : {T : Type 0} → Result T MapErr → Option MapErr
why_not (Ok x) = None
why_not (Err why) = Some why

-- the same of a map that may be handed back
abbrev pub why_back : Result (Unit {0}) MapRefusal → Option MapErr
why_back (Ok x) = None
why_back (Err refusal) = Some refusal.why

-- a refusal that a file call may have too, as its reply
abbrev pub map_reply : Option MapErr → Answer
map_reply (Some (Call why)) = Refuses why
map_reply _ = Fine

-- the id of an open descriptor
abbrev pub id_at : ℕ → State → Result ℕ FsErr
id_at fd s = of_open (open_at s.slots fd)
  where
    of_open : Option Open → Result ℕ FsErr
    of_open None = Err BadDescriptor
    of_open (Some o) = Ok o.id

-- an id of the table
abbrev pub id_in : ℕ → State → Result ℕ FsErr
id_in id s = if has_id id s.table then Ok id else Err NotFound

-- why a map is not attached, by whether one is, and by the id that is asked for
abbrev pub attach_refusal : Bool → Result ℕ FsErr → Option MapErr
attach_refusal true wanted = Some MapBusy
attach_refusal false (Err why) = Some (Call why)
attach_refusal false (Ok id) = None

module _ {N : Type 0} {nor : NorOf N} where
  -- What each call of maps does to a volume, apart from the map: what waits is put onto the chip, and pages are read.
  pub record SettlesAndReads (old new : Volume N nor) (refusal : Option MapErr) : Type 0 where
    pub same : IsSameVolume old new
    pub slots : new.slots.now ≡ old.slots.now
    -- what a cut leaves: a table that waited
    pub cuts : Changes nor old.nor.now new.nor.now (λ before image. (m : Moment) → IsAt old.geometry before (memory old) m →
        IsSafe old.geometry before image × IsAmong (table_of old.geometry image) (from_settled m []))
    -- a volume that stands at a moment stands where all is settled, unless the device failed
    pub stands : (m : Moment) → takes_calls old ≡ true → Holds old m → (refusal ≡ Some (Call DeviceFault) → ⊥) → Holds new (settled_at m.state)
    pub still : takes_calls old ≡ true → HasNone old → Unchanged old new
    -- a volume that takes no calls says so
    pub closed : takes_calls old ≡ false → (refusal ≡ Some (Call Failed)) × (new ≡ old)
    -- a fault is told only where one was counted
    pub cause : refusal ≡ Some (Call DeviceFault) → Rose (nor.faults old.nor.now) (nor.faults new.nor.now)
    -- after a fault the volume has failed, or nothing is changed; it fails in no other call
    pub failed : breaks (map_reply refusal) ≡ true → (has_failed new ≡ true) ⊎ Unchanged old new
    pub stays : (new.stage ≡ old.stage) ⊎ ((takes_calls old ≡ true) × (has_failed new ≡ true) × (breaks (map_reply refusal) ≡ true))

  -- the number that a volume's map tells for its i-th span
  abbrev pub page_told : Volume N nor → ℕ → Option ℕ
  page_told v i = if v.map.used && nat_lt i (spans_in v.map.first v.numbers.now) then Some (number_at v.numbers.now i) else None

  -- a volume's map tells the spans of all bytes that a read gives
  abbrev pub covers_read : Volume N nor → (at len : ℕ) → Bool
  covers_read v at len = covers v.geometry v.map v.numbers.now at len

  -- Bytes of the table's file are read through a volume's map, where there is one and it covers them.
  pub record ReadsThrough (v : Volume N nor) (table : List File) (at : ℕ) (was got : List ℕ) (result : Result ℕ MapErr) : Type 0 where
    pub none : v.map.used ≡ false → result ≡ Err NoMap
    pub apart : v.map.used ≡ true → covers_read v at (length was) ≡ false → result ≡ Err NotMapped
    pub reads : v.map.used ≡ true → covers_read v at (length was) ≡ true → (f : File) → file_of v.map.id table ≡ Some f →
        GivesOrFault result (λ n. IsRead f at was got n)

  -- What a read through a map does.
  pub record ReadsMap (old new : Volume N nor) (at : ℕ) (was got : List ℕ) (result : Result ℕ MapErr) : Type 0 where
    pub call : SettlesAndReads old new (why_not result)
    -- on a volume that stands at a moment, the bytes are those of the table, unless the device failed
    pub answers : (m : Moment) → takes_calls old ≡ true → Holds old m → (result ≡ Err (Call DeviceFault) → ⊥) → ReadsThrough new m.state.table at was got result
    -- of a page that reads otherwise than it was written, two tags are told that differ
    pub differs : (d : Differ) → why_not result ≡ Some (Call (Damaged d)) → d.wanted ≢ d.found
    -- where nothing waits, each data page in which the bytes lie is read once at most, and no other page
    pub once : takes_calls old ≡ true → HasNone old →
        nor.device_reads new.nor.now ≤ nor.device_reads old.nor.now + pages_met (body old.geometry) at (given old.map.size at (length was))
    -- the map
    pub maps : (m : Moment) → takes_calls old ≡ true → Holds old m → KeepsMap old new (breaks (map_reply (why_not result)))
    pub idle : takes_calls old ≡ true → HasNone old → new.map ≡ old.map

  -- What attaching a map does, of the id that is asked for by the state.
  pub record Attaches (wanted : State → Result ℕ FsErr) (first lent : ℕ) (old new : Volume N nor) (result : Result (Unit {0}) MapRefusal) : Type 0 where
    pub call : SettlesAndReads old new (why_back result)
    pub answers : (m : Moment) → takes_calls old ≡ true → Holds old m → (why_back result ≡ Some (Call DeviceFault) → ⊥) →
        why_back result ≡ attach_refusal (is_attached old) (wanted m.state)
    -- done, the file of that id is mapped in the lent bytes
    pub done : (m : Moment) → takes_calls old ≡ true → Holds old m → why_back result ≡ None →
        (new.map.used ≡ true) × (wanted m.state ≡ Ok new.map.id) × (new.map.first ≡ first) × (length new.numbers.now ≡ lent)
    -- refused, the bytes are given back, as many as before are lent, and the map that there was is kept
    pub back : IfErr result (λ refusal. length refusal.numbers.now ≡ lent)
    pub apart : (m : Moment) → takes_calls old ≡ true → Holds old m → (why_back result ≡ None → ⊥) → is_attached new ≡ is_attached old
    pub maps : (m : Moment) → takes_calls old ≡ true → Holds old m → (why_back result ≡ None → ⊥) → is_attached old ≡ true →
        KeepsMap old new (breaks (map_reply (why_back result)))
    -- of a page that reads otherwise than it was written, two tags are told that differ
    pub differs : (d : Differ) → why_back result ≡ Some (Call (Damaged d)) → d.wanted ≢ d.found
