-- A target while files are copied onto it.
use Rattle.std.specs.Prelude.{◌≡◌, ◌+◌, ◌-◌, ◌<◌, ◌≤◌, ◌%◌, ◌⊎◌, ℕ, min, List, Bool, true, false, Some}
use Rattle.geometry.specs.declared.geometry.Geometry.{Geometry}
use Rattle.geometry.specs.Numbers.{body}
use Rattle.table_model.specs.declared.reply.Stat.{Stat}
use Rattle.nor_core.specs.declared.state.NorState.{Ghosts as NorOf}
use Rattle.nor_core.specs.Device.{Changes}
use Rattle.table_model.specs.Table.{File, Open, State}
use Rattle.table_model.specs.Room.{index_pages}
use Rattle.image_model.specs.Tables.{table_of}
use Rattle.call_model.specs.Safe.{IsSafe}
use Rattle.call_model.specs.Closed.{with_files}
use Rattle.vol_mount.specs.declared.reader.Reader.{Reader}
use Rattle.volume.specs.declared.volume.Volume.{Volume}
use Rattle.volume_run.specs.Resting.{IsAtRest}
use Rattle.copy_model.specs.declared.err.CopyErr.{CopyErr}
use Rattle.copy_model.specs.declared.err.CopyErr.TheVariants.{Full, FromFault, ToFault}
use Rattle.copy_model.specs.Filling.{with_first}
use Rattle.copy_model.specs.Stops.{full_as}
use Rattle.copy_model.specs.Tasks.{Task, stops_at}
use Rattle.copy_model.specs.Under.{IsUnder, IsPart}
use Rattle.copy_model.specs.Parts.{IsFilling, IsLacking}
use Rattle.vol_copy.specs.Ends.{TellsFiles}

-- so many bytes of a record, from the start of a data page on, to its end or that of the record
pub record IsPage (g : Geometry) (stat : Stat) (at len : ℕ) : Type 0 where
  pub some : 0 < len
  pub page : at % body g ≡ 0
  pub most : len ≤ body g
  pub within : at + len ≤ stat.size
  pub whole : (len ≡ body g) ⊎ (at + len ≡ stat.size)

-- where the data page from a place of a record on ends
abbrev pub page_end : Geometry → (size at : ℕ) → ℕ
page_end g size at = at + min (size - at) (body g)

-- how many index pages more a record's bytes take up to there
abbrev pub index_more : Geometry → (size at : ℕ) → ℕ
index_more g size at = index_pages g (page_end g size at) - index_pages g at

module _ {M : Type 0} {nor : NorOf M} where
  -- A target at rest whose descriptors are closed. Of its files that holds, where the source tells its records.
  pub record Rests (holds : Task → List File → Type 0) (t : Task) (v : Volume M nor) : Type 0 where
    pub files : List File
    pub some : 0 < t.slots
    pub at : IsAtRest t.g v (with_files t.slots files)
    pub known : t.known ≡ true → holds t files

  -- The same with its first descriptor open, opened with such flags.
  pub record Works (fd flags : ℕ) (holds : Task → Open → List File → Type 0) (t : Task) (v : Volume M nor) : Type 0 where
    pub files : List File
    pub id : ℕ
    pub offset : ℕ
    pub first : fd ≡ 1
    pub some : 0 < t.slots
    pub at : IsAtRest t.g v (with_first t.slots (record { id = id; flags = flags; offset = offset }) files)
    pub known : t.known ≡ true → holds t (record { id = id; flags = flags; offset = offset }) files

  -- A target at rest at some state. Where the source tells its records, the next step has no room, which takes so many pages more.
  pub record LacksRoom (index pages : ℕ) (t : Task) (v : Volume M nor) : Type 0 where
    pub state : State
    pub at : IsAtRest t.g v state
    pub known : t.known ≡ true → IsLacking index pages t state

  -- The data page from a place of a record on has no room.
  abbrev pub LacksPage : (size at : ℕ) → Task → Volume M nor → Type 0
  LacksPage size at t v = LacksRoom (index_more v.geometry size at) 1 t v

  -- So many bytes of a record more were written behind those before a place, or had no room.
  abbrev pub PageWent : (fd : ℕ) (stat : Stat) (at len : ℕ) (fits : Bool) → Task → Volume M nor → Type 0
  PageWent fd stat at len true t v = Works fd 52 (IsFilling stat (at + len)) t v
  PageWent fd stat at len false t v = LacksRoom (index_pages v.geometry (at + len) - index_pages v.geometry at) 1 t v

  -- What calls do that lead from targets as A has it: a cut leaves an image that may follow, and what the copy may leave.
  abbrev pub CutsUnder : (A : Task → Volume M nor → Type 0) (old new : Volume M nor) → Type 0
  CutsUnder A old new = Changes nor old.nor.now new.nor.now
      (λ was image. (t : Task) → A t old → IsSafe t.g was image × (t.known ≡ true → IsUnder t.alike t.source t.first (table_of t.g image)))

  -- they lead to targets as B has it
  abbrev pub Leads : (A B : Task → Volume M nor → Type 0) (old new : Volume M nor) → Type 0
  Leads A B old new = (t : Task) → A t old → B t new

  -- A copy stopped for want of room: the target is at rest, with the copies of the records before.
  pub record IsShort (t : Task) (v : Volume M nor) (why : CopyErr) : Type 0 where
    pub table : List File
    pub stops : stops_at t ≡ Some table
    pub why_is : why ≡ full_as t.g table
    pub left : List File
    pub at : IsAtRest t.g v (with_files t.slots left)
    pub part : IsPart t.alike t.source t.first left

  -- how a copy may stop where both devices tell
  abbrev pub StopsAs : Task → Volume M nor → CopyErr → Type 0
  StopsAs t v (Full index pages) = IsShort t v (Full index pages)
  StopsAs t v FromFault = Unit {0}
  StopsAs t v ToFault = Unit {0}
  StopsAs t v _ = ⊥

  -- calls that lead from targets as A has it stop so
  abbrev pub StopsFrom : (A : Task → Volume M nor → Type 0) (old new : Volume M nor) → CopyErr → Type 0
  StopsFrom A old new why = (t : Task) → A t old → t.known ≡ true → StopsAs t new why

  -- calls that lead from targets as A has it stop for faults of the target alone
  abbrev pub OnlyFaults : (A : Task → Volume M nor → Type 0) (old : Volume M nor) → CopyErr → Type 0
  OnlyFaults A old why = (t : Task) → A t old → t.known ≡ true → why ≡ ToFault

  -- a target beside a source that tells the records, where these are known
  abbrev pub With : {N : Type 0} (nor_from : NorOf N) (from : Reader N nor_from) (A : Task → Volume M nor → Type 0) → Task → Volume M nor → Type 0
  With nor_from from A t v = (t.known ≡ true → TellsFiles nor_from from t.source) × A t v
