-- What the steps of a copy leave, before its closing line.
use Rattle.std.specs.Prelude.{ℕ, ◌≡◌, ◌≢◌, ◌+◌, ◌≤◌, ◌⊎◌, List, length, Some, None, Result, Ok, Err}
use Rattle.geometry.specs.declared.geometry.Geometry.{Geometry}
use Rattle.nor_core.specs.declared.state.NorState.{Ghosts as NorOf}
use Rattle.nor_core.specs.Device.{Leaves}
use Rattle.image_model.specs.Tables.{table_of, damaged_of}
use Rattle.copy_model.specs.Copying.{kept_count}
use Rattle.copy_model.specs.Stops.{copy_stop}
use Rattle.copy_model.specs.declared.err.Copied.{Copied}
use Rattle.vol_copy.specs.Ends.{alike_of}
use Rattle.vol_mount.specs.declared.lent.MountErr.{MountErr}
use Rattle.vol_mount.specs.declared.lent.MountErr.TheVariants.{NotAFs as MountNotAFs, DeviceFault as MountFault}
use Rattle.tool_parts.specs.declared.ending.Ending.{Ending}
use Rattle.tool_parts.specs.declared.ending.Ending.TheVariants.{NotAFs, BoardFault, SourceChipFault}
use Rattle.tool_parts.specs.Closing.{status_of}
use Rattle.tool_parts.specs.Later.{IsLaterStatus}
use Rattle.tool_parts.specs.Endings.{Speaks, WritesNone}
use Rattle.tool_parts.specs.Refusals.{mount_refusal, check_refusal, begin_refusal}
use Rattle.copy_tool.specs.Endings.{target_stop, copy_ending, copy_text}
use Rattle.copy_tool.specs.Does.{HasCopies, IsFull, IsKept, IsStuck, LeavesBy, CopyLeaves, CopyCut, HasAll}

-- how a copy ends that doesn't mount its source
abbrev pub source_ends : MountErr → Ending
source_ends (MountNotAFs spoiled) = NotAFs spoiled
source_ends MountFault = SourceChipFault

-- an ending that mounting and checking a target may have: none of a refusal, of a copy that was begun, or of the source
pub record IsOfTarget (ending : Ending) : Type 0 where
  pub later : IsLaterStatus (status_of ending)
  pub undone : status_of ending ≢ 0
  pub no_full : status_of ending ≢ 6
  pub no_damage : status_of ending ≢ 12
  pub no_names : status_of ending ≢ 13
  pub no_source : status_of ending ≢ 18

-- the source is mounted, and so many of its ids are damaged
pub record IsSurveyed (gf : Geometry) (source : List ℕ) (damaged : ℕ) : Type 0 where
  pub mounts : mount_refusal gf source ≡ None
  pub count : damaged ≡ length (damaged_of gf source)

-- why the source isn't surveyed: its device failed, or it isn't mounted
abbrev pub StopsSurvey : Geometry → (source : List ℕ) → Ending → Type 0
StopsSurvey gf source ending = (ending ≡ SourceChipFault) ⊎ (mount_refusal gf source ≡ Some ending)

module _ (gf g : Geometry) (source was now : List ℕ) where
  -- Each file of the source has its copy: so many were copied, and so many had it already.
  pub record IsDone (c : Copied) : Type 0 where
    pub begun : begin_refusal g was now ≡ None
    pub stop : copy_stop g (alike_of gf g) (table_of gf source) (table_of g was) ≡ None
    pub copies : HasCopies gf g source was now
    pub kept : c.kept ≡ kept_count (alike_of gf g) (table_of gf source) (table_of g was)
    pub all : c.copied + c.kept ≡ length (table_of gf source)

  -- the target isn't one that is worked on, or the flat tables say why not
  pub record IsStopped (ending : Ending) : Type 0 where
    pub stop : target_stop gf g source was now ≡ Some ending
    pub undone : (status_of ending ≢ 0) × (status_of ending ≢ 12)
    pub full : status_of ending ≡ 6 → IsFull gf g source was now
    pub named : status_of ending ≡ 13 → IsKept g was now
    pub tight : status_of ending ≡ 14 → IsStuck g was now

  -- how the target is left: so, or a device failed
  abbrev pub CopiesAs : Result Copied Ending → Type 0
  CopiesAs (Ok c) = IsDone c
  CopiesAs (Err ending) = (ending ≡ BoardFault) ⊎ ((ending ≡ SourceChipFault) ⊎ IsStopped ending)

-- Before its closing line: the summary was said, or a front of it where the target failed; or the source failed.
pub record CopiesTo {S D : Type 0} (from : NorOf S) (nor : NorOf D) (gf g : Geometry) (source : S) (old new : D) (result : Ending) : Type 0 where
  pub cuts : Leaves nor old new (λ image count. nor.tells old → CopyCut from nor gf g source old new image count)
  pub speaks : from.tells source → nor.tells old → Speaks nor old new (copy_text gf g (from.bytes source) (nor.bytes old) (nor.bytes new))
      (copy_ending gf g (from.bytes source) (nor.bytes old) (nor.bytes new)) result ⊎ ((result ≡ SourceChipFault) × (nor.said new ≡ nor.said old))
  pub leaves : from.tells source → nor.tells old → LeavesBy gf g (from.bytes source) (nor.bytes old) (nor.bytes new) (status_of result)
  pub left : nor.tells old → CopyLeaves from gf g source (nor.bytes old) (nor.bytes new)
  pub longer : length (nor.said old) ≤ length (nor.said new)
  pub idle : from.tells source → nor.tells old → HasAll gf g (from.bytes source) (nor.bytes old) → WritesNone nor old new
  pub kept : nor.tells old → (ending : Ending) → check_refusal g (nor.bytes old) ≡ Some ending → WritesNone nor old new
  pub unmounted : from.tells source → (ending : Ending) → mount_refusal gf (from.bytes source) ≡ Some ending → WritesNone nor old new
