-- What a volume holds while the files of a folder are put onto it, and once they are there.
use Rattle.std.specs.Prelude.{ℕ, ◌≡◌, ◌<◌, ◌⊎◌, true, false, List, [], ◌∷◌, ◌++◌, length, take, codes, decimal, None}
use Rattle.geometry.specs.declared.geometry.Geometry.{Geometry}
use Rattle.nor_core.specs.declared.state.NorState.{Ghosts as NorOf}
use Rattle.table_model.specs.declared.reply.Info.{Info}
use Rattle.table_model.specs.Table.{State}
use Rattle.table_model.specs.Calls.{info_of}
use Rattle.table_model.specs.Ask.{Ask}
use Rattle.table_model.specs.Flat.{answer}
use Rattle.table_model.specs.Steps.{is_refusal}
use Rattle.folder_core.specs.Files.{Entry, FolderFile, entries_of, name_at, bytes_at}
use Rattle.folder_core.specs.declared.state.FolderState.{Ghosts as FolderOf}
use Rattle.volume.specs.declared.volume.Volume.{Volume}
use Rattle.volume_run.specs.Ready.{IsReady}
use Rattle.volume_run.specs.declared.asking.Stop.TheVariants.{Fault}
use Rattle.volume_run.specs.Stops.{IsApart as StopIsApart}
use Rattle.folder_plan.specs.Refusals.{make_refusal, index_sum, data_sum}
use Rattle.call_model.specs.Closed.{with_files}
use Rattle.folder_plan.specs.Putting.{put_state, begun_state, IsNew}
use Rattle.volume_make.specs.declared.put_err.PutErr.{PutErr}
use Rattle.volume_make.specs.declared.put_err.PutErr.TheVariants.{Folder, Stopped, Refused}

-- the folder failed, or the device did
abbrev pub IsFault : PutErr → Type 0
IsFault why = (why ≡ Folder) ⊎ (why ≡ Stopped Fault)

-- of a page that reads otherwise, what was wanted there and what was found differ
abbrev pub IsApart : PutErr → Type 0
IsApart Folder = Unit {0}
IsApart (Stopped stop) = StopIsApart stop
IsApart Refused = Unit {0}

-- the line of an image that was made: files, index pages and data pages
abbrev pub made_text : (files index pages : ℕ) → List ℕ
made_text files index pages = (codes "files " ++ decimal files) ++ (codes " index " ++ decimal index) ++ (codes " data " ++ decimal pages) ++ (10 ∷ [])

-- the line of an image that was made of a folder with these names and sizes
abbrev pub make_text : Geometry → List Entry → List ℕ
make_text g entries = made_text (length entries) (index_sum g entries) (data_sum g entries)

module _ {N X : Type 0} {nor : NorOf N} where
  -- The first files of a folder that isn't refused are on a volume: they have the names and sizes of its entries, and are its files
  -- where it tells their bytes. All of so many descriptors are closed.
  pub record HasPut (folder : FolderOf X) (g : Geometry) (slots : ℕ) (d : X) (count : ℕ) (v : Volume N nor) : Type 0 where
    pub some : 0 < slots
    pub fine : make_refusal g (folder.entries d) ≡ None
    pub files : List FolderFile
    pub entries : entries_of files ≡ take count (folder.entries d)
    pub told : folder.tells d → files ≡ take count (folder.files d)
    pub ready : IsReady g v (put_state g slots files)

  -- So they are, and of the next file the bytes before a place; the first descriptor is open there.
  pub record HasBegun (folder : FolderOf X) (g : Geometry) (slots : ℕ) (d : X) (count at : ℕ) (v : Volume N nor) : Type 0 where
    pub some : 0 < slots
    pub fine : make_refusal g (folder.entries d) ≡ None
    pub files : List FolderFile
    pub bytes : List ℕ
    pub entries : entries_of files ≡ take count (folder.entries d)
    pub many : length bytes ≡ at
    pub told : folder.tells d → (files ≡ take count (folder.files d)) × (bytes ≡ take at (bytes_at (folder.files d) count))
    pub ready : IsReady g v (begun_state g slots files (record { name = name_at (folder.entries d) count; bytes = bytes }))

  -- All files of a folder are on a volume, which stands there with all of so many descriptors closed, and their number and pages were told.
  -- They have the names and sizes of the folder's entries, and are its files where it tells their bytes.
  pub record IsMade (folder : FolderOf X) (g : Geometry) (slots : ℕ) (d : X) (v : Volume N nor) (info : Info) : Type 0 where
    pub files : List FolderFile
    pub entries : entries_of files ≡ folder.entries d
    pub told : folder.tells d → files ≡ folder.files d
    pub ready : IsReady g v (put_state g slots files)
    pub files_are : info.files ≡ length (folder.entries d)
    pub index_is : info.index_pages ≡ index_sum g (folder.entries d)
    pub data_is : info.data_pages ≡ data_sum g (folder.entries d)

  -- What holds where a volume had no file, a descriptor of it can be opened, all are closed, and the folder isn't refused.
  abbrev pub FromEmpty : FolderOf X → (old : Volume N nor) → X → (Geometry → ℕ → Type 0) → Type 0
  FromEmpty folder old d P = (g : Geometry) (slots : ℕ) → 0 < slots → make_refusal g (folder.entries d) ≡ None → IsReady g old (with_files slots []) → P g slots

  abbrev pub IsMadeFrom : FolderOf X → (old : Volume N nor) → X → (new : Volume N nor) → Info → Type 0
  IsMadeFrom folder old d new info = FromEmpty folder old d (λ g slots. IsMade folder g slots d new info)

  -- then the files are not all put only where the folder or the device failed
  abbrev pub OnlyFailsFrom : FolderOf X → (old : Volume N nor) → X → PutErr → Type 0
  OnlyFailsFrom folder old d why = FromEmpty folder old d (λ g slots. IsFault why)

  -- the same of a step from a number of files to another
  abbrev pub PutsFrom : FolderOf X → (count next : ℕ) (old new : Volume N nor) (was now : X) → Type 0
  PutsFrom folder count next old new was now = (g : Geometry) (slots : ℕ) → HasPut folder g slots was count old → HasPut folder g slots now next new

  abbrev pub FailsFrom : FolderOf X → (count : ℕ) (old : Volume N nor) (was : X) → PutErr → Type 0
  FailsFrom folder count old was why = (g : Geometry) (slots : ℕ) → HasPut folder g slots was count old → IsFault why

  -- or from a place of the next file to another
  abbrev pub WritesFrom : FolderOf X → (count at next : ℕ) (old new : Volume N nor) (was now : X) → Type 0
  WritesFrom folder count at next old new was now = (g : Geometry) (slots : ℕ) → HasBegun folder g slots was count at old →
      HasBegun folder g slots now count next new

  abbrev pub StopsWriting : FolderOf X → (count at : ℕ) (old : Volume N nor) (was : X) → PutErr → Type 0
  StopsWriting folder count at old was why = (g : Geometry) (slots : ℕ) → HasBegun folder g slots was count at old → IsFault why

module _ {N : Type 0} {nor : NorOf N} where
  -- a call was done, and the volume stands at the state after it
  abbrev pub DoneFrom : (old : Volume N nor) → Ask → (new : Volume N nor) → Type 0
  DoneFrom old ask new = (g : Geometry) (s : State) → IsReady g old s → IsReady g new (answer g true s ask).next

  -- a call that the flat table doesn't refuse wasn't done only where the device failed
  abbrev pub UndoneFrom : (old : Volume N nor) → Ask → PutErr → Type 0
  UndoneFrom old ask why = (g : Geometry) (s : State) → IsReady g old s → is_refusal (answer g true s ask).answer ≡ false → IsFault why

  -- A new file of a name was opened: where the files of a folder stood on the volume, none of them has that name, and there is room for it
  -- without a byte, it stands behind them, and the first descriptor is open on it.
  abbrev pub BeginsFrom : (name : List ℕ) (old new : Volume N nor) → (fd : ℕ) → Type 0
  BeginsFrom name old new fd = (g : Geometry) (slots : ℕ) (files : List FolderFile) → IsNew g slots files name → IsReady g old (put_state g slots files) →
      (fd ≡ 1) × IsReady g new (begun_state g slots files (record { name = name; bytes = [] }))

  abbrev pub StopsBeginning : (name : List ℕ) (old : Volume N nor) → PutErr → Type 0
  StopsBeginning name old why = (g : Geometry) (slots : ℕ) (files : List FolderFile) → IsNew g slots files name →
      IsReady g old (put_state g slots files) → IsFault why

  -- how full a volume is was told, which stands where it stood
  abbrev pub TellsFrom : (old new : Volume N nor) → Info → Type 0
  TellsFrom old new info = (g : Geometry) (s : State) → IsReady g old s → (info ≡ info_of g s.table) × IsReady g new s

  abbrev pub StopsTelling : (old : Volume N nor) → PutErr → Type 0
  StopsTelling old why = (g : Geometry) (s : State) → IsReady g old s → IsFault why
