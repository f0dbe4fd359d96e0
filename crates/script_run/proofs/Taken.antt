-- What a cut leaves of an image that mounting and the check take, they take.
use Rattle.std.proofs.Common.{◌≡◌, ℕ, ◌≤◌, List, length, Bool, true, false, cond, Option, Some, None, refl, sym, ap, subst, arith, inl, ⊎_elim}
use Rattle.std.specs.Prelude.{nat_lt}
use Rattle.std.proofs.lemmas.Bool.Decides.{nat_tests}
use Rattle.geometry.specs.declared.geometry.Geometry.{Geometry}
use Rattle.nor_core.specs.declared.state.NorState.{Ghosts as NorOf}
use Rattle.nor_core.proofs.Cuts.{widened}
use Rattle.image_model.specs.Kinds.{spoiled_blocks}
use Rattle.image_model.specs.Tidy.{IsTidy}
use Rattle.call_model.proofs.Mounts.{cuts_keep_magics}
use Rattle.tool_parts.specs.declared.ending.Ending.{Ending}
use Rattle.tool_parts.specs.declared.ending.Ending.TheVariants.{NotAFs}
use Rattle.tool_parts.specs.Mounting.{IsMendable}
use Rattle.tool_parts.specs.Refusals.{mount_refusal}
use Rattle.script_run.specs.Running.{ClosingCut}
use Rattle.script_run.specs.Taken.{CutsMount, CutsAreTaken, CutCallsMend, CutRunsMend}
use Rattle.tool_parts.proofs.Refusals.{mount_few, check_takes, tidy_mends}

-- ---- what is taken

-- what a test says of an image that isn't refused for it
later : (b : Bool) (e : Ending) (o : Option Ending) → cond b (Some e) o ≡ None → (b ≡ false) × (o ≡ None)
later true e o is = let no : Some e ≡ None = is in absurd (cc)
later false e o is = (refl, is)

few_of : (n : ℕ) → nat_lt 1 n ≡ false → n ≤ 1
few_of n is = grind (arith, nat_tests)

mount_tells : (g : Geometry) (image : List ℕ) → mount_refusal g image ≡ None → spoiled_blocks g image ≤ 1
unfolding mount_refusal
mount_tells g image is = few_of (spoiled_blocks g image) (later (nat_lt 1 (spoiled_blocks g image)) (NotAFs (spoiled_blocks g image)) None is).0

pub cuts_mount : (g : Geometry) → CutsMount g
cuts_mount g was image is safe = mount_few g image (cuts_keep_magics g was image (mount_tells g was is) safe)

pub cuts_taken : (g : Geometry) → CutsAreTaken g
cuts_taken g was image is fits safe = check_takes g image (cuts_keep_magics g was image (mount_tells g was is) safe) (safe.fits 0 fits)

-- ---- what is mended

module _ {D : Type 0} (nor : NorOf D) (g : Geometry) where
  pub cut_calls_mend : CutCallsMend nor g
  cut_calls_mend old m calls image count cut some = ⊎_elim (λ mends. mends) (λ none. absurd (omega (arith, some, cut.count_is, ap length none.0))) cut.mends

  -- the last image, once a byte of the closing line was said
  closing_mends : (old new : D) (before closing image : List ℕ) (count : ℕ) → IsMendable g (nor.bytes old) → IsTidy g (nor.bytes new) → ClosingCut nor g old new before closing image count → IsMendable g image
  closing_mends old new before closing image count may tidy cut = tidy_mends g image (subst (λ (l : List ℕ). IsTidy g l) (sym cut.image_is) tidy) (cut.reserve (inl may))

  pub cut_runs_mend : CutRunsMend nor g
  cut_runs_mend old new m script left status may outcome = ⊎_elim
      (λ broken. widened broken.cuts (λ image count here some. cut_calls_mend old m _ image count here some))
      (λ closed. ⊎_elim
      (λ early. absurd (early.1.mends_not may))
      (λ ran. widened closed.cuts (λ image count here some. ⊎_elim
      (λ calls. cut_calls_mend old m _ image count calls some)
      (λ closing. closing_mends old new _ _ image count may (closed.tidy ran.0) closing)
      here))
      closed.why)
      outcome
