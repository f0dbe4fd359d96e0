-- What a make leaves and answers.
use Rattle.std.specs.Prelude.{ℕ, ◌≡◌, ◌≢◌, ◌⊎◌, List, [], Some, None}
use Rattle.geometry.specs.declared.geometry.Geometry.{Geometry}
use Rattle.nor_core.specs.declared.state.NorState.{Ghosts as NorOf}
use Rattle.nor_core.specs.Count.{Rose}
use Rattle.flash_view.specs.Same.{StaysBehind}
use Rattle.folder_core.specs.declared.state.FolderState.{Ghosts as FolderOf}
use Rattle.folder_core.specs.Files.{FolderFile, entries_of}
use Rattle.folder_core.specs.Puts.{Kept}
use Rattle.folder_plan.specs.declared.refusing.Refusal.{Refusal}
use Rattle.folder_plan.specs.declared.refusing.Refusal.TheVariants.{BadNames, Full as NoRoom}
use Rattle.folder_plan.specs.Refusals.{make_refusal}
use Rattle.folder_plan.specs.Tables.{folder_table}
use Rattle.volume_make.specs.Making.{make_text}
use Rattle.tool_parts.specs.declared.ending.Ending.{Ending}
use Rattle.tool_parts.specs.declared.ending.Ending.TheVariants.{Done, Full, FolderFault, BadName}
use Rattle.tool_parts.specs.Endings.{OnlyCloses, Speaks, Concludes}
use Rattle.tool_core.specs.Filling.{HoldsFiles, WasFormatted}

-- how a make ends whose folder's names and sizes refuse it
abbrev pub refused_by : Refusal → Ending
refused_by (BadNames at) = BadName at
refused_by (NoRoom index pages) = Full index pages

-- why no image is made of a folder: it failed, or its names and sizes refuse that
abbrev pub StopsMake : {X : Type 0} (folder : FolderOf X) (g : Geometry) (before after : X) → Ending → Type 0
StopsMake folder g before after ending =
    ((ending ≡ FolderFault) × Rose (folder.faults before) (folder.faults after))
    ⊎ ((why : Refusal) × (make_refusal g (folder.entries before) ≡ Some why) × (ending ≡ refused_by why))

-- A tidy image with its reserve has the files of a folder under the ids 1, 2, 3 and so on, in its order: they have its names and sizes, and
-- its bytes where it tells them.
pub record HoldsFolder {X : Type 0} (folder : FolderOf X) (g : Geometry) (image : List ℕ) (d : X) : Type 0 where
  pub files : List FolderFile
  pub entries : entries_of files ≡ folder.entries d
  pub told : folder.tells d → files ≡ folder.files d
  pub holds : HoldsFiles g image (folder_table g files)

-- Before its closing line a make said the line of a folder, and then the image has its files; or the board failed, and a front of it was said.
pub record SpeaksFolder {D X : Type 0} (nor : NorOf D) (folder : FolderOf X) (g : Geometry) (old new : D) (before : X) (result : Ending) : Type 0 where
  pub speaks : Speaks nor old new (make_text g (folder.entries before)) Done result
  pub left : result ≡ Done → HoldsFolder folder g (nor.bytes new) before

-- or the folder failed, and nothing was said
abbrev pub MakesTo : {D X : Type 0} (nor : NorOf D) (folder : FolderOf X) (g : Geometry) (old new : D) (before : X) → Ending → Type 0
MakesTo nor folder g old new before result = ((result ≡ FolderFault) × (nor.said new ≡ nor.said old)) ⊎ SpeaksFolder nor folder g old new before result

-- the folder failed: nothing is said but the closing line of that
pub record EndsUnread {D X : Type 0} (nor : NorOf D) (folder : FolderOf X) (old new : D) (before after : X) (status : ℕ) : Type 0 where
  pub concludes : Concludes nor old new [] FolderFault status
  pub cause : Rose (folder.faults before) (folder.faults after)

-- the folder failed before the board was asked for anything, and only the closing line of that is said
pub record EndsUnlisted {D X : Type 0} (nor : NorOf D) (folder : FolderOf X) (old new : D) (before after : X) (status : ℕ) : Type 0 where
  pub closes : OnlyCloses nor old new FolderFault status
  pub cause : Rose (folder.faults before) (folder.faults after)

-- A make formats the volume, writes the files of the folder into it under the ids 1, 2, 3 and so on, and says how many pages they take.
pub record DoesMake {D X : Type 0} (nor : NorOf D) (folder : FolderOf X) (g : Geometry) (old new : D) (before after : X) (status : ℕ) : Type 0 where
  -- the folder stays as it is
  pub kept : Kept folder before after
  -- where the folder's names and sizes refuse it, by the first bad name, or else for want of room, the closing line of that is said, and
  -- nothing else happens; or the folder failed before that was known
  pub refused : (why : Refusal) → make_refusal g (folder.entries before) ≡ Some why →
      OnlyCloses nor old new (refused_by why) status ⊎ EndsUnlisted nor folder old new before after status
  -- else neither status of that comes
  pub accepted : make_refusal g (folder.entries before) ≡ None → (status ≢ 6) × (status ≢ 13)
  -- and the line of the folder is said, and the status is 0; or a front of it, and 7, where a fault of the board rose; or the folder failed
  pub told : nor.tells old → make_refusal g (folder.entries before) ≡ None →
      Concludes nor old new (make_text g (folder.entries before)) Done status ⊎ EndsUnread nor folder old new before after status
  -- with status 0 the image has the folder's files, and came of a formatted one
  pub files : nor.tells old → status ≡ 0 → HoldsFolder folder g (nor.bytes new) before
  pub formats : nor.tells old → status ≡ 0 → WasFormatted nor g old new
  -- whatever is told, time goes on, and the bytes behind the volume stay
  pub behind : StaysBehind nor g old new
