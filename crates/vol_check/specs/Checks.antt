-- What a check refuses, and what it leaves.
use Rattle.std.specs.Prelude.{◌≡◌, ℕ, ◌<◌, ◌≤◌, List, length, false, nat_lt}
use Rattle.geometry.specs.declared.geometry.Geometry.{Geometry}
use Rattle.image_model.specs.Places.{erase_count}
use Rattle.image_model.specs.Tables.{table_of, damaged_of}
use Rattle.image_model.specs.Tidy.{IsNeat, free_blocks}
use Rattle.image_model.specs.Kinds.{spoiled_blocks}
use Rattle.image_model.specs.Killed.{killed_of}
use Rattle.image_model.specs.Shared.{SameUses, shared_blocks, fits_over}
use Rattle.room_laws.specs.Staged.{IsStripped}
use Rattle.flash_view.specs.declared.kinds.StepErr.{StepErr}
use Rattle.flash_view.specs.declared.kinds.StepErr.TheVariants.{DeviceFault as StepFault, Damaged as StepDamaged}
use Rattle.vol_check.specs.declared.report.CheckErr.{CheckErr}
use Rattle.vol_check.specs.declared.report.CheckErr.TheVariants.{NotMounted, Wrong, Mixed, DeviceFault, Damaged}
use Rattle.vol_check.specs.declared.report.Report.{Report}
use Rattle.vol_check.specs.MadeFresh.{count_after}

-- how a step failed, as a check tells it
abbrev pub as_check_err : StepErr → CheckErr
as_check_err StepFault = DeviceFault
as_check_err (StepDamaged d) = Damaged d

-- a refusal of a mounted volume whose numbers allow writing
abbrev pub IsWritable : CheckErr → Type 0
IsWritable NotMounted = ⊥
IsWritable (Wrong why) = ⊥
IsWritable (Mixed blocks) = Unit {0}
IsWritable DeviceFault = Unit {0}
IsWritable (Damaged differ) = Unit {0}

-- a refusal for what was given, and not for what the device did
abbrev pub IsRefusal : CheckErr → Type 0
IsRefusal NotMounted = Unit {0}
IsRefusal (Wrong why) = Unit {0}
IsRefusal (Mixed blocks) = Unit {0}
IsRefusal DeviceFault = ⊥
IsRefusal (Damaged differ) = ⊥

-- the stages of a check, which move no page, find none damaged, and take blocks that hold pages of both kinds
abbrev pub IsOfStages : CheckErr → Type 0
IsOfStages NotMounted = ⊥
IsOfStages (Wrong why) = Unit {0}
IsOfStages (Mixed blocks) = ⊥
IsOfStages DeviceFault = Unit {0}
IsOfStages (Damaged differ) = ⊥

-- a refusal for shared blocks that don't fit over tells how many there are
abbrev pub CountsMixed : Geometry → List ℕ → CheckErr → Type 0
CountsMixed g image NotMounted = Unit {0}
CountsMixed g image (Mixed blocks) = (blocks ≡ shared_blocks g image) × (fits_over g image ≡ false)
CountsMixed g image (Wrong why) = Unit {0}
CountsMixed g image DeviceFault = Unit {0}
CountsMixed g image (Damaged differ) = Unit {0}

-- What the stages of a check leave: the image is neat with its table and no fewer free blocks, of the pages that were live those that
-- weren't wanted were killed, and the block without its magic is free, with the next erase count, while the others keep theirs; and the
-- report tells what was found and done.
pub record Checked (g : Geometry) (was now : List ℕ) (report : Report) : Type 0 where
  pub neat : IsNeat g now
  pub table : table_of g now ≡ table_of g was
  pub erased : report.erased ≡ nat_lt 0 (spoiled_blocks g was)
  pub killed : report.killed ≡ killed_of g was
  pub damaged : report.damaged ≡ length (damaged_of g was)
  pub free : report.free_blocks ≡ free_blocks g now
  pub free_least : free_blocks g was ≤ free_blocks g now
  pub stripped : IsStripped g was now
  pub uses : SameUses g was now
  pub counts : (block : ℕ) → block < g.blocks → erase_count g now block ≡ count_after g was block
