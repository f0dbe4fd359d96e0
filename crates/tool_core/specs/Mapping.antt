-- What a map leaves and says.
use Rattle.std.specs.Prelude.{ℕ, zero, suc, ◌≡◌, ◌≢◌, ◌<◌, ◌≤◌, ◌⊎◌, List, ◌∷◌, [], ◌++◌, length, min, Bool, true, false, if◌then◌else◌, nat_lt, codes, decimal}
use Rattle.std.specs.Prelude.{Option, Some, None, unwrap_or, Result, Ok, Err, IfOk, OnOk, OnErr, MatchResult}
use Rattle.geometry.specs.declared.geometry.Geometry.{Geometry}
use Rattle.nor_core.specs.declared.device.Failed.{Failed}
use Rattle.nor_core.specs.declared.state.NorState.{Ghosts as NorOf}
use Rattle.nor_core.specs.Device.{Leaves, Changes}
use Rattle.table_model.specs.declared.error.FsErr.{FsErr}
use Rattle.table_model.specs.declared.error.FsErr.TheVariants.{NotFound, Tight as TooTight}
use Rattle.table_model.specs.Table.{File, file_of, has_id}
use Rattle.table_model.specs.Room.{data_pages}
use Rattle.image_model.specs.Tables.{table_of}
use Rattle.image_model.specs.Tidy.{IsTidy, HasReserve}
use Rattle.image_tool.specs.Saying.{OnlySays, SaysFront}
use Rattle.flash_view.specs.DataPages.{data_number_of}
use Rattle.flash_view.specs.Same.{StaysBehind}
use Rattle.block_gc.specs.RoomMade.{IsCompact}
use Rattle.file_calls.specs.Collecting.{IsStuckAt}
use Rattle.call_model.specs.Safe.{IsSafe, HoldsImage}
use Rattle.vol_check.specs.declared.report.Report.{Report}
use Rattle.volume.specs.declared.map_calls.MapErr.{MapErr}
use Rattle.volume.specs.declared.map_calls.MapErr.TheVariants.{Call}
use Rattle.volume.specs.declared.volume.Volume.{Volume}
use Rattle.volume.specs.Holds.{memory}
use Rattle.volume.specs.Mapping.{KeepsMap}
use Rattle.volume.specs.MapReads.{page_told}
use Rattle.tool_parts.specs.declared.ending.Ending.{Ending}
use Rattle.tool_parts.specs.declared.ending.Ending.TheVariants.{Done, BoardFault, NoSuchId, Tight}
use Rattle.tool_parts.specs.Closing.{status_of, closing_line_of}
use Rattle.tool_parts.specs.Endings.{Speaks, Concludes, WritesNone, HasMended}
use Rattle.tool_core.specs.Filling.{unsettled_as}
use Rattle.tool_parts.specs.Mounting.{Reported, IsMendable, LeavesFiles}
use Rattle.tool_parts.specs.Begins.{closed_memory}
use Rattle.tool_parts.specs.Reads.{ReadsOnce}
use Rattle.tool_parts.specs.Refusals.{check_refusal, unless_refused}
use Rattle.tool_core.specs.Scrubbing.{ScrubCut as MapCut}

-- the line of a span: its number and that of its data page
abbrev pub page_line : (span page : ℕ) → List ℕ
page_line span page = decimal span ++ (codes " " ++ decimal page) ++ (10 ∷ [])

-- the line of a span of an id
abbrev pub span_line : Geometry → List ℕ → (id span : ℕ) → List ℕ
span_line g image id span = page_line span (unwrap_or (data_number_of g image id span) 0xFFFF)

-- the lines of so many spans of an id, from span 0 on
unfoldable pub span_lines : Geometry → List ℕ → (id count : ℕ) → List ℕ
span_lines g image id zero = []
span_lines g image id (suc span) = span_lines g image id span ++ span_line g image id span

-- how many spans of a file have a line: those below 4,096
abbrev pub spans_told : Geometry → Option File → ℕ
spans_told g None = 0
spans_told g (Some f) = min 4096 (data_pages g (length f.bytes))

-- What a map says before its closing line: the lines of the last image, for the file that the first one has of the id. Where the check doesn't
-- take the first one it says nothing.
abbrev pub map_text : Geometry → (was now : List ℕ) → (id : ℕ) → List ℕ
map_text g was now id = unless_refused (check_refusal g was) (span_lines g now id (spans_told g (file_of id (table_of g was))))

-- how a map ends on a checked volume that has this file of the id
abbrev pub file_ending : (id : ℕ) → Option File → Ending
file_ending id None = NoSuchId id
file_ending id (Some f) = Done

-- how it ends on an image
abbrev pub map_ending : Geometry → (was : List ℕ) → (id : ℕ) → Ending
map_ending g was id = unwrap_or (check_refusal g was) (file_ending id (file_of id (table_of g was)))

-- how a command ends that can't map the file of an id
abbrev pub unmapped_as : (id : ℕ) → MapErr → Ending
unmapped_as id (Call NotFound) = NoSuchId id
unmapped_as id (Call why) = unsettled_as why
unmapped_as id why = Tight 0

-- how it goes on that collected garbage
abbrev pub collected_as : Result (Unit {0}) FsErr → Result (Unit {0}) Ending
collected_as (Err TooTight) = Ok tt
collected_as (Err why) = Err (unsettled_as why)
collected_as (Ok done) = Ok tt

-- ---- the steps

-- where collection stops: no block is worth cleaning, or it is stuck
abbrev pub StopsCollecting : Geometry → (was now : List ℕ) → Type 0
StopsCollecting g was now = IsCompact g was now ⊎ IsStuckAt g was now

module _ {N : Type 0} {nor : NorOf N} where
  -- a volume's device tells a tidy image, its descriptors are closed, and nothing waits
  pub record IsAtRest (slots : ℕ) (v : Volume N nor) : Type 0 where
    pub tells : nor.tells v.nor.now
    pub tidy : IsTidy v.geometry (nor.bytes v.nor.now)
    pub memory : memory v ≡ closed_memory slots

  -- it is so again, with the same table
  pub record Rests (slots : ℕ) (old new : Volume N nor) : Type 0 where
    pub rest : IsAtRest slots new
    pub table : table_of old.geometry (nor.bytes new.nor.now) ≡ table_of old.geometry (nor.bytes old.nor.now)
    pub holds : HoldsImage old.geometry (nor.bytes old.nor.now) (nor.bytes new.nor.now)

  -- A step on such a volume: a cut keeps the files, and it is done, or there is a reason.
  pub record Steps (slots : ℕ) (old new : Volume N nor) (result : Result (Unit {0}) Ending) (Is : Type 0) (Why : Ending → Type 0) : Type 0 where
    pub changes : Changes nor old.nor.now new.nor.now
        (λ was image. memory old ≡ closed_memory slots → IsTidy old.geometry was → LeavesFiles old.geometry was image)
    pub done : IsAtRest slots old → MatchResult result (λ ok. Rests slots old new × Is) Why

  -- the table of its image has an id
  abbrev pub has_file : Volume N nor → (id : ℕ) → Bool
  has_file v id = has_id id (table_of v.geometry (nor.bytes v.nor.now))

  -- there is a map of the file of an id, from span 0 on, in so many lent bytes
  pub record HasMap (id lent : ℕ) (v : Volume N nor) : Type 0 where
    pub used : v.map.used ≡ true
    pub of : v.map.id ≡ id
    pub first : v.map.first ≡ 0
    pub room : length v.numbers.now ≡ lent

  -- so many bytes are lent, and if there is a map, it is that
  pub record MayHaveMap (id lent : ℕ) (v : Volume N nor) : Type 0 where
    pub some : 0 < lent
    pub room : length v.numbers.now ≡ lent
    pub map : v.map.used ≡ true → HasMap id lent v

  -- there is no such id, and the bytes stay
  pub record IsMissing (id : ℕ) (old new : Volume N nor) (ending : Ending) : Type 0 where
    pub ending_is : ending ≡ NoSuchId id
    pub none : has_file old id ≡ false
    pub bytes : nor.bytes new.nor.now ≡ nor.bytes old.nor.now

  -- there is one, and the bytes stay
  pub record IsFound (id lent : ℕ) (old new : Volume N nor) : Type 0 where
    pub map : HasMap id lent new
    pub there : has_file old id ≡ true
    pub bytes : nor.bytes new.nor.now ≡ nor.bytes old.nor.now

  -- A map is attached; or the board failed, or there is no such id.
  abbrev pub AttachesTo : (slots id lent : ℕ) (old new : Volume N nor) → Result (Unit {0}) Ending → Type 0
  AttachesTo slots id lent old new result = Steps slots old new result (IsFound id lent old new) (λ ending. (ending ≡ BoardFault) ⊎ IsMissing id old new ending)

  -- Garbage is collected, and the map is of the same file, or a fault was counted; or the board failed.
  abbrev pub CollectsTo : (slots : ℕ) (old new : Volume N nor) → Result (Unit {0}) Ending → Type 0
  CollectsTo slots old new result = Steps slots old new result
      (StopsCollecting old.geometry (nor.bytes old.nor.now) (nor.bytes new.nor.now) × KeepsMap old new false) (λ ending. ending ≡ BoardFault)

  -- There is the map, attached again if it was lost; or the board failed.
  abbrev pub MapsAgain : (slots id : ℕ) (old new : Volume N nor) → Result (Unit {0}) Ending → Type 0
  MapsAgain slots id old new result = Steps slots old new result
      ((lent : ℕ) → has_file old id ≡ true → MayHaveMap id lent old → HasMap id lent new × (nor.bytes new.nor.now ≡ nor.bytes old.nor.now))
      (λ ending. (lent : ℕ) → has_file old id ≡ true → MayHaveMap id lent old → ending ≡ BoardFault)

  -- ---- the lines

  -- the map tells the data page of a span
  pub record TellsPage (id span : ℕ) (v : Volume N nor) : Type 0 where
    pub page : ℕ
    pub told : page_told v span ≡ Some page
    pub is : data_number_of v.geometry (nor.bytes v.nor.now) id span ≡ Some page
    pub low : page < 0xFFFF

  -- it tells those of so many spans, of 4,096 at most, and none behind them
  pub record TellsPages (id count : ℕ) (v : Volume N nor) : Type 0 where
    pub few : count ≤ 4096
    pub pages : (span : ℕ) → span < count → TellsPage id span v
    pub ends : count < 4096 → page_told v count ≡ Some 0xFFFF

  -- the line of the span of that number, if there are more
  abbrev pub next_line : Volume N nor → (id count span : ℕ) → List ℕ
  next_line v id count span = if nat_lt span count then span_line v.geometry (nor.bytes v.nor.now) id span else []

  -- The line is said, or a front of it where the board failed, and it is told whether there is one.
  pub record SaysSpan (id count span : ℕ) (old new : Volume N nor) (result : Result Bool Failed) : Type 0 where
    pub says : OnlySays nor old.nor.now new.nor.now (next_line old id count span)
    pub whole : nor.tells old.nor.now → OnOk result (nor.said new.nor.now ≡ nor.said old.nor.now ++ next_line old id count span)
    pub front : nor.tells old.nor.now → OnErr result (SaysFront nor old.nor.now new.nor.now (next_line old id count span))
    pub more : nor.tells old.nor.now → IfOk result (λ more. more ≡ nat_lt span count)
    pub pages : nor.tells old.nor.now → OnOk result (TellsPages id count new)

-- all lines are said, or a front of them where the board failed
pub record SaysSpans {D : Type 0} (nor : NorOf D) (g : Geometry) (id count : ℕ) (old new : D) (result : Result (Unit {0}) Failed) : Type 0 where
  pub says : OnlySays nor old new (span_lines g (nor.bytes old) id count)
  pub whole : nor.tells old → OnOk result (nor.said new ≡ nor.said old ++ span_lines g (nor.bytes old) id count)
  pub front : nor.tells old → OnErr result (SaysFront nor old new (span_lines g (nor.bytes old) id count))

-- ---- on a checked volume, and with the check before that

-- What is done on a checked volume: up to a moment garbage is collected, and from then on nothing is done but saying the lines of the file of
-- the id.
pub record MapEnds {D : Type 0} (nor : NorOf D) (g : Geometry) (id : ℕ) (old new : D) (result : Ending) : Type 0 where
  pub mid : D
  pub changes : Changes nor old mid (LeavesFiles g)
  pub says : OnlySays nor mid new (span_lines g (nor.bytes mid) id (spans_told g (file_of id (table_of g (nor.bytes old)))))
  pub speaks : nor.tells old →
      Speaks nor mid new (span_lines g (nor.bytes mid) id (spans_told g (file_of id (table_of g (nor.bytes old)))))
      (file_ending id (file_of id (table_of g (nor.bytes old)))) result
  pub done : nor.tells old → result ≡ Done → StopsCollecting g (nor.bytes old) (nor.bytes mid)
  pub missing : nor.tells old → status_of result ≡ 17 → nor.bytes mid ≡ nor.bytes old
  pub holds : nor.tells old → (result ≡ BoardFault) ⊎ HoldsImage g (nor.bytes old) (nor.bytes mid)

-- an image was checked, which left another
pub record IsChecked (g : Geometry) (was now : List ℕ) : Type 0 where
  pub report : Report
  pub is : Reported g was now report

-- Garbage was collected of the image that the check left of the first one, until no block was worth cleaning or collection was stuck. The check
-- left the first one itself, where that is tidy with two free blocks.
pub record CollectedAfter (g : Geometry) (was now : List ℕ) : Type 0 where
  pub checked : List ℕ
  pub check : IsChecked g was checked
  pub idle : IsTidy g was → HasReserve g was → checked ≡ was
  pub stops : StopsCollecting g checked now

-- before its closing line: it said its lines, the board failed, there is no such id, or the first image isn't taken
pub record MapsTo {D : Type 0} (nor : NorOf D) (g : Geometry) (id : ℕ) (old new : D) (result : Ending) : Type 0 where
  pub cuts : Leaves nor old new (λ image count. nor.tells old → MapCut nor g old new (map_text g (nor.bytes old) (nor.bytes new) id) image count)
  pub speaks : nor.tells old → Speaks nor old new (map_text g (nor.bytes old) (nor.bytes new) id) (map_ending g (nor.bytes old) id) result
  pub done : nor.tells old → result ≡ Done → CollectedAfter g (nor.bytes old) (nor.bytes new)
  pub missing : nor.tells old → status_of result ≡ 17 → IsChecked g (nor.bytes old) (nor.bytes new)
  pub table : nor.tells old → table_of g (nor.bytes new) ≡ table_of g (nor.bytes old)
  pub safe : nor.tells old → IsSafe g (nor.bytes old) (nor.bytes new)
  pub holds : nor.tells old → (result ≡ BoardFault) ⊎ HoldsImage g (nor.bytes old) (nor.bytes new)
  pub mends : nor.tells old → IsMendable g (nor.bytes old) → (result ≡ BoardFault) ⊎ (HasReserve g (nor.bytes new) × (status_of result ≢ 14))
  pub kept : nor.tells old → (ending : Ending) → check_refusal g (nor.bytes old) ≡ Some ending → WritesNone nor old new

-- A map checks the volume, collects garbage, and says for each span of the file of an id, below 4,096, which page holds its data.
pub record DoesMap {D : Type 0} (nor : NorOf D) (g : Geometry) (cache id : ℕ) (old new : D) (status : ℕ) : Type 0 where
  -- the lines of the last image are said, and the closing line of the first one
  pub told : nor.tells old → Concludes nor old new (map_text g (nor.bytes old) (nor.bytes new) id) (map_ending g (nor.bytes old) id) status
  -- with status 0 the volume was checked, and then garbage was collected; where the id isn't there it was checked alone
  pub done : nor.tells old → status ≡ 0 → CollectedAfter g (nor.bytes old) (nor.bytes new)
  pub missing : nor.tells old → status ≡ 17 → IsChecked g (nor.bytes old) (nor.bytes new)
  -- the last image has the table of the first one; it may be left by a cut in it, and where the board didn't fail it follows it
  pub table : nor.tells old → table_of g (nor.bytes new) ≡ table_of g (nor.bytes old)
  pub safe : nor.tells old → IsSafe g (nor.bytes old) (nor.bytes new)
  pub holds : nor.tells old → status ≢ 7 → HoldsImage g (nor.bytes old) (nor.bytes new)
  -- it has two free blocks where the check takes the first one and leaves it two, if the board didn't fail
  pub mends : nor.tells old → IsMendable g (nor.bytes old) → HasMended nor g new status
  -- an image that isn't taken stays, where the board fails too
  pub kept : nor.tells old → (ending : Ending) → check_refusal g (nor.bytes old) ≡ Some ending → WritesNone nor old new
  -- what a cut at any moment leaves
  pub cuts : Leaves nor old new (λ image count. nor.tells old →
      MapCut nor g old new (map_text g (nor.bytes old) (nor.bytes new) id ++ closing_line_of (map_ending g (nor.bytes old) id)) image count)
  -- the bytes behind the volume stay
  pub behind : StaysBehind nor g old new
  -- each page is read once at most
  pub reads : ReadsOnce nor g cache old new
