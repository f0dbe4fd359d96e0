-- What mounting and checking a volume leave.
use Rattle.std.specs.Prelude.{◌≡◌, ℕ, ◌+◌, ◌⊎◌, List, Some, None}
use Rattle.geometry.specs.declared.geometry.Geometry.{Geometry}
use Rattle.nor_core.specs.declared.state.NorState.{Ghosts as NorOf}
use Rattle.nor_core.specs.Device.{OnlyReads}
use Rattle.image_model.specs.Tables.{table_of}
use Rattle.image_model.specs.Tidy.{HasReserve}
use Rattle.image_model.specs.Sound.{HasMagics, IsSound}
use Rattle.image_model.specs.Shared.{FitsWith}
use Rattle.call_model.specs.Safe.{ComesBack, IsSafe}
use Rattle.vol_mount.specs.declared.lent.MountErr.{MountErr}
use Rattle.vol_mount.specs.declared.lent.MountErr.TheVariants.{NotAFs as MountNotAFs, DeviceFault as MountFault}
use Rattle.vol_check.specs.declared.report.CheckErr.{CheckErr}
use Rattle.vol_check.specs.declared.report.CheckErr.TheVariants.{NotMounted as CheckOut, Wrong as CheckWrong, Mixed as CheckMixed, DeviceFault as CheckFault, Damaged as CheckDamaged}
use Rattle.vol_check.specs.declared.report.Report.{Report}
use Rattle.volume.specs.Checking.{CheckDone}
use Rattle.tool_parts.specs.declared.ending.Ending.{Ending}
use Rattle.tool_parts.specs.declared.ending.Ending.TheVariants.{Geometry as WrongGeometry, ShortBuffer, NotAFs, Mixed, BoardFault, Differ}
use Rattle.tool_parts.specs.Refusals.{check_refusal}

-- what mounting and the check may leave of any image: its table, sound, two free blocks where they were there, and of the entries to spare
-- all but one
pub record Checks (g : Geometry) (was image : List ℕ) : Type 0 where
  pub sound : HasMagics g was → IsSound g image was
  pub table : table_of g image ≡ table_of g was
  pub reserve : HasReserve g was → HasReserve g image
  pub fits : (spare : ℕ) → FitsWith g was (spare + 1) → FitsWith g image spare

-- a cut leaves what may follow the first image, with its files
abbrev pub LeavesFiles : Geometry → (was image : List ℕ) → Type 0
LeavesFiles g was image = IsSafe g was image × (table_of g image ≡ table_of g was)

-- mounting and the check take the image, and an uncut check leaves two free blocks
pub record IsMendable (g : Geometry) (image : List ℕ) : Type 0 where
  pub takes : check_refusal g image ≡ None
  pub comes_back : ComesBack g image

-- a volume that was checked: its image was one that the check takes, the report tells what was found and done, and two blocks are free
-- where an uncut check of that image leaves them
pub record Reported (g : Geometry) (was now : List ℕ) (report : Report) : Type 0 where
  pub takes : check_refusal g was ≡ None
  pub done : CheckDone g was now report
  pub mends : ComesBack g was → HasReserve g now

-- the first image isn't taken, and was only read
pub record IsRefused {D : Type 0} (nor : NorOf D) (g : Geometry) (old new : D) (ending : Ending) : Type 0 where
  pub refusal : check_refusal g (nor.bytes old) ≡ Some ending
  pub reads : OnlyReads nor old new

-- the board failed; an image that isn't taken was only read then too
pub record HasFailed {D : Type 0} (nor : NorOf D) (g : Geometry) (old new : D) (ending : Ending) : Type 0 where
  pub fault : ending ≡ BoardFault
  pub looks : (why : Ending) → check_refusal g (nor.bytes old) ≡ Some why → OnlyReads nor old new

-- why a volume isn't checked: the board failed, or its image isn't taken
abbrev pub StopsCheck : {D : Type 0} (nor : NorOf D) (g : Geometry) (old new : D) → Ending → Type 0
StopsCheck nor g old new ending = HasFailed nor g old new ending ⊎ IsRefused nor g old new ending

-- how a command ends that doesn't mount its volume
abbrev pub mount_ends : MountErr → Ending
mount_ends (MountNotAFs spoiled) = NotAFs spoiled
mount_ends MountFault = BoardFault

-- how a command ends that doesn't check its volume
abbrev pub check_ends : CheckErr → Ending
check_ends CheckOut = BoardFault
check_ends (CheckWrong why) = WrongGeometry why
check_ends (CheckMixed blocks) = Mixed blocks
check_ends CheckFault = BoardFault
check_ends (CheckDamaged differ) = Differ differ
