-- The cleaning after the stages of a check, and the errors of each.
use Rattle.std.proofs.Common.{◌≡◌, ℕ, List, refl, sym, ap, subst}
use Rattle.std.specs.Prelude.{Result, Ok, Err, Option, Some, None, IfSome, IsErrOf}
use Rattle.geometry.specs.declared.geometry.Geometry.{Geometry}
use Rattle.geometry.specs.declared.error.GeoErr.{GeoErr}
use Rattle.nor_core.specs.declared.state.NorState.{Ghosts as NorOf}
use Rattle.image_model.specs.Tidy.{IsTidy, free_blocks}
use Rattle.image_model.specs.Sound.{Keeps}
use Rattle.flash_view.specs.declared.kinds.StepErr.{StepErr}
use Rattle.flash_view.specs.declared.kinds.StepErr.TheVariants.{DeviceFault as StepFault, Damaged as StepDamaged}
use Rattle.flash_view.specs.declared.view.View.{View}
use Rattle.flash_view.specs.Steps.{Step, Stepped, stopped}
use Rattle.flash_view.proofs.Stepped.{fails_as}
use Rattle.vol_check.specs.declared.report.CheckErr.{CheckErr}
use Rattle.vol_check.specs.declared.report.CheckErr.TheVariants.{NotMounted, Wrong, Mixed, DeviceFault, Damaged}
use Rattle.vol_check.specs.Checks.{IsWritable, IsRefusal, IsOfStages, CountsMixed, as_check_err}
use Rattle.volume.specs.Checking.{IsApart, IsUndamaged, MayStop, Cleared, check_stopped}
use Rattle.file_calls.proofs.Going.{tidy_sound}

-- ---- errors

pub stages_apart : (why : CheckErr) → IsOfStages why → IsApart why
stages_apart (Damaged d) h = absurd h
stages_apart _ h = tt

pub stages_undamaged : (why : CheckErr) → IsOfStages why → IsUndamaged why
stages_undamaged (Damaged d) h = absurd h
stages_undamaged _ h = tt

-- they find no shared block
pub stages_mixed : (g : Geometry) (image : List ℕ) (why : CheckErr) → IsOfStages why → CountsMixed g image why
stages_mixed g image NotMounted h = absurd h
stages_mixed g image (Mixed n) h = absurd h
stages_mixed g image (Wrong w) h = tt
stages_mixed g image DeviceFault h = tt
stages_mixed g image (Damaged d) h = tt

-- where no page reads otherwise, none is told of
pub undamaged_apart : (why : CheckErr) → IsUndamaged why → IsApart why
undamaged_apart (Damaged d) h = absurd h
undamaged_apart _ h = tt

-- an error of the cleaning
pub stop_means : (why : StepErr) → stopped.means why → MayStop (as_check_err why)
stop_means StepFault means = tt
stop_means (StepDamaged d) means = means

pub stop_fault : (why : StepErr) → as_check_err why ≡ DeviceFault → why ≡ StepFault
stop_fault StepFault e = refl
stop_fault (StepDamaged d) e = absurd (cc)

-- so a step that failed is a failed step of the check
pub stops_as : {N T : Type 0} {nor : NorOf N} {old new : View N nor} {why : StepErr} {step : Step T} → Stepped stopped old new (Err why) step → Stepped check_stopped old new (Err (as_check_err why)) step
stops_as {why = why} call = fails_as call (λ is. stop_fault why is) (λ is. ap as_check_err is) (stop_means why call.means) (λ tells need. record { needs = need; cut = λ c cut. cut })

pub same_err : {T : Type 0} (v w : CheckErr) → IsErrOf {T = T} (Err v) w → v ≡ w
same_err v w e = cc

pub stop_writable : (why : CheckErr) → MayStop why → IsWritable why
stop_writable NotMounted h = absurd h
stop_writable (Wrong w) h = absurd h
stop_writable (Mixed n) h = absurd h
stop_writable DeviceFault h = tt
stop_writable (Damaged d) h = tt

pub stop_mixed : (g : Geometry) (image : List ℕ) (why : CheckErr) → MayStop why → CountsMixed g image why
stop_mixed g image NotMounted h = absurd h
stop_mixed g image (Wrong w) h = absurd h
stop_mixed g image (Mixed n) h = absurd h
stop_mixed g image DeviceFault h = tt
stop_mixed g image (Damaged d) h = tt

pub stop_goes_on : (why : CheckErr) → MayStop why → IsRefusal why → ⊥
stop_goes_on NotMounted h r = absurd h
stop_goes_on (Wrong w) h r = absurd h
stop_goes_on (Mixed n) h r = absurd h
stop_goes_on DeviceFault h r = r
stop_goes_on (Damaged d) h r = r

pub stop_apart : (why : CheckErr) → MayStop why → IsApart why
stop_apart NotMounted h = tt
stop_apart (Wrong w) h = tt
stop_apart (Mixed n) h = tt
stop_apart DeviceFault h = tt
stop_apart (Damaged d) h = h

-- the one error of the cleaning of a tidy image
pub fault_undamaged : (why : CheckErr) → why ≡ DeviceFault → IsUndamaged why
fault_undamaged why is = rw is tt

-- what wasn't refused for its numbers has none that are
pub none_wrong : {T : Type 0} (o : Option GeoErr) (x : T) → IfSome o (λ why. ◌≡◌ {A = Result T CheckErr} (Ok x) (Err (Wrong why))) → o ≡ None
none_wrong None x h = refl
none_wrong (Some why) x h = absurd (cc)

pub no_refusal : (o : Option GeoErr) (P : GeoErr → Type 0) → o ≡ None → IfSome o P
no_refusal None P h = tt
no_refusal (Some why) P h = absurd (cc)

-- ---- images

-- the free blocks are counted, and nothing changes
abbrev pub counting : Step ℕ
counting = record { needs = IsTidy; cut = λ g was image. image ≡ was; done = λ g was now free. (now ≡ was) × (free ≡ free_blocks g was) }

-- so a cut keeps the image, and the count is that after the cleaning
pub counted_keeps : (g : Geometry) (was mid image : List ℕ) → Keeps g was mid → image ≡ mid → Keeps g was image
counted_keeps g was mid image keeps same = subst (λ (c : List ℕ). Keeps g was c) (sym same) keeps

pub tidy_keeps : (g : Geometry) (was mid : List ℕ) → Cleared g was mid → Keeps g was mid
tidy_keeps g was mid s = record { sound = tidy_sound g mid was s.tidy; table = s.table }

pub cleared_counted : (g : Geometry) (was mid now : List ℕ) (free : ℕ) → Cleared g was mid → (now ≡ mid) × (free ≡ free_blocks g mid) → Cleared g was now × (free ≡ free_blocks g now)
cleared_counted g was mid now free s w = subst (λ (c : List ℕ). Cleared g was c × (free ≡ free_blocks g c)) (sym w.0) (s, w.1)
