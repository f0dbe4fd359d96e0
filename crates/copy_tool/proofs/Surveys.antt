-- Why a source isn't surveyed.
use Rattle.std.proofs.Common.{◌≡◌, ◌∙◌, ◌≤◌, ℕ, List, length, refl, ap, inl, inr}
use Rattle.geometry.specs.declared.geometry.Geometry.{Geometry}
use Rattle.nor_core.specs.declared.state.NorState.{Ghosts as NorOf}
use Rattle.nor_core.specs.Device.{OnlyReads}
use Rattle.image_model.specs.Kinds.{spoiled_blocks}
use Rattle.image_model.specs.Tables.{damaged_of}
use Rattle.vol_mount.specs.declared.lent.MountErr.{MountErr}
use Rattle.vol_mount.specs.declared.lent.MountErr.TheVariants.{NotAFs as MountNotAFs, DeviceFault as MountFault}
use Rattle.vol_mount.specs.Mounts.{CountsSpoiled}
use Rattle.tool_parts.proofs.Refusals.{mount_two, mount_few}
use Rattle.copy_tool.specs.Steps.{source_ends, IsSurveyed, StopsSurvey}

-- it wasn't mounted
pub mount_survey : (gf : Geometry) (source : List ℕ) (why : MountErr) → CountsSpoiled gf source why → StopsSurvey gf source (source_ends why)
mount_survey gf source (MountNotAFs spoiled) counts = inr (mount_two gf source spoiled counts.0 counts.1)
mount_survey gf source MountFault counts = inl refl

-- it was, and so many damaged ids were counted
pub count_survey : {S : Type 0} {from : NorOf S} {gf : Geometry} {old mid : S} (h : Geometry) (count : ℕ) → h ≡ gf → OnlyReads from old mid → spoiled_blocks gf (from.bytes old) ≤ 1 → count ≡ length (damaged_of h (from.bytes mid)) → IsSurveyed gf (from.bytes old) count
count_survey {S} {from} {gf} {old} {mid} h count same reads few is = record {
  mounts = mount_few gf (from.bytes old) few;
  count = is ∙ ap (λ (k : Geometry). length (damaged_of k (from.bytes mid))) same ∙ ap (λ (l : List ℕ). length (damaged_of gf l)) reads.bytes;
}
