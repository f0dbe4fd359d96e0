-- A target while the file that has the next record's name is compared with the record.
use Rattle.std.specs.Prelude.{◌≡◌, ◌≤◌, ℕ, List, length, take, Bool, true, false, not, ◌==◌, ◌&&◌, ◌||◌, Some}
use Rattle.nor_core.specs.declared.state.NorState.{Ghosts as NorOf}
use Rattle.nor_core.specs.Device.{OnlyReads}
use Rattle.table_model.specs.declared.reply.Stat.{Stat}
use Rattle.table_model.specs.Table.{File, Open, same_text, file_named}
use Rattle.volume.specs.declared.volume.Volume.{Volume}
use Rattle.copy_model.specs.declared.err.CopyErr.{CopyErr}
use Rattle.copy_model.specs.Copying.{keeps}
use Rattle.copy_model.specs.Filling.{looker}
use Rattle.copy_model.specs.Tasks.{Task}
use Rattle.copy_model.specs.Parts.{IsNext}
use Rattle.vol_copy.specs.Stages.{CutsUnder, Leads, StopsFrom}

-- Whether a file may be a copy of a record, by what is told of both: meta bytes are compared where there are as many.
abbrev pub may_be : (stat there : Stat) → Bool
may_be stat there = (there.kind == 1) && (there.size == stat.size) && (not (length there.meta == length stat.meta) || same_text there.meta stat.meta)

-- The next record, and whether its name has a copy.
pub record IsSeen (stat : Stat) (copy : Bool) (t : Task) (files : List File) : Type 0 where
  pub next : IsNext stat t files
  pub seen : keeps t.alike next.f files ≡ copy

-- Its name has a file with as many bytes, which is a copy exactly where these are the same.
pub record IsLike (stat : Stat) (t : Task) (files : List File) : Type 0 where
  pub next : IsNext stat t files
  pub x : File
  pub there : file_named stat.name files ≡ Some x
  pub long : length x.bytes ≡ stat.size
  pub by_bytes : keeps t.alike next.f files ≡ same_text x.bytes next.f.bytes

-- A descriptor is open at a place of that file, and the bytes before it are the same.
pub record IsLooking (stat : Stat) (at : ℕ) (t : Task) (d : Open) (files : List File) : Type 0 where
  pub like : IsLike stat t files
  pub d_is : d ≡ looker like.x.id at
  pub within : at ≤ stat.size
  pub same : take at like.x.bytes ≡ take at like.next.f.bytes

-- all that is wanted was compared, and the descriptor is still open
abbrev pub IsLooked : (stat : Stat) (copy : Bool) → Task → Open → List File → Type 0
IsLooked stat copy t d files = IsSeen stat copy t files

-- bytes up to a place were read, and were the same, or others
abbrev pub IsRead : (stat : Stat) (at : ℕ) (same : Bool) → Task → Open → List File → Type 0
IsRead stat at true t d files = IsLooking stat at t d files
IsRead stat at false t d files = IsSeen stat false t files

module _ {M : Type 0} {nor : NorOf M} where
  -- calls only read a target as A has it, where the source tells its records
  abbrev pub Idles : (A : Task → Volume M nor → Type 0) (old new : Volume M nor) → Type 0
  Idles A old new = (t : Task) → A t old → t.known ≡ true → OnlyReads nor old.nor.now new.nor.now

  -- Calls that only look lead from targets as A has it to such as B has it.
  pub record Looked (A B : Task → Volume M nor → Type 0) (old new : Volume M nor) : Type 0 where
    pub cuts : CutsUnder A old new
    pub looks : Idles A old new
    pub leads : Leads A B old new

  -- Such calls stop.
  pub record LooksUntil (A : Task → Volume M nor → Type 0) (old new : Volume M nor) (why : CopyErr) : Type 0 where
    pub cuts : CutsUnder A old new
    pub looks : Idles A old new
    pub stops : StopsFrom A old new why
