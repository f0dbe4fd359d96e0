-- A scrub step, over plain images.
use Rattle.std.proofs.Common.{◌≡◌, ℕ, ◌≤◌, ⊎_elim, inr, List, [], ◌∷◌, Bool, true, false, refl, sym, ◌∙◌, subst, arith}
use Rattle.std.specs.Prelude.{Option, Some, None}
use Rattle.geometry.specs.declared.geometry.Geometry.{Geometry}
use Rattle.image_model.specs.Places.{IsImage}
use Rattle.image_model.specs.Tidy.{IsTidy, HasReserve}
use Rattle.image_model.specs.Collect.{chosen_block}
use Rattle.image_laws.proofs.Sounding.{keeps-on}
use Rattle.flash_view.specs.Steps.{Begins, Finishes}
use Rattle.room_laws.specs.Recovery.{MayCut}
use Rattle.room_laws.proofs.Staying.{reserve_mends}
use Rattle.room_laws.proofs.Stops.{reserve_can_clean, reserve_fits_each, stopped_has_reserve}
use Rattle.block_gc.specs.Cleanings.{CanCleanBlock}
use Rattle.block_gc.specs.Spares.{MayMove}
use Rattle.block_gc.specs.Programs.{cost_of}
use Rattle.block_gc.specs.RoomMade.{SweptAlong, FreedUp, FreeStops, freeing}
use Rattle.block_gc.specs.Moved.{MovedBlock, moving_block}
use Rattle.block_gc.proofs.Cleanings.{both_keep}
use Rattle.block_gc.proofs.Replacing.{tidy_keeps}
use Rattle.wear_scrub.specs.declared.scrubs.Scrub.{Scrub}
use Rattle.wear_scrub.specs.declared.scrubs.Scrub.TheVariants.{NoRoom, Rested, Moved}
use Rattle.wear_scrub.specs.Scrubs.{IsLevel, HasNoVictim, IsPick, Moves, PickDone, StepMade, ScrubCut, ScrubDone, IsAtRest, moving_picked, scrubbing}
use Rattle.trim_laws.proofs.NextCounts.{next_rises}

-- nothing is written
pub rests : (g : Geometry) (image : List ℕ) → IsTidy g image → ScrubCut g image image
rests g image tidy = record { keeps = tidy_keeps g image tidy; mends = λ two. reserve_mends g image two }

-- ---- the block that is picked is moved

-- two blocks are free where one may be moved
may_two : (g : Geometry) (image : List ℕ) (block : ℕ) → MayMove g image block → HasReserve g image
may_two g image block may = ⊎_elim (λ three. omega (arith, three)) (λ two. two.0) may

module _ (g : Geometry) (image : List ℕ) (limit block age : ℕ) (is : IsImage g image) (tidy : IsTidy g image) (pick : IsPick g image limit (Moved block age)) where
  two : HasReserve g image
  two = may_two g image block pick.0.may

  can_clean : CanCleanBlock g image block
  can_clean = record { tidy = tidy; used = pick.0.used; fits = reserve_fits_each g image block tidy two pick.0.below }

  may_cut : MayCut g image block
  may_cut = record { can = reserve_can_clean g image is tidy two; within = pick.0.below; used = pick.0.used; reserve = λ held. two; gains = inr pick.0.may }

  pub move_begins : {x y : ℕ} → Begins g image (moving_block block x y) (moving_picked limit x y)
  move_begins = record { needs = can_clean; cut = λ c cut. record { keeps = cut.keeps; mends = λ reserve. cut.mends may_cut } }

  -- two blocks are free then
  is_met : {x y : ℕ} (met : Bool) (now : List ℕ) → MovedBlock g block met x y image now → MovedBlock g block true x y image now
  is_met true now done = done
  is_met false now done = let reserve = done.reserve may_cut in let few = done.freed.stops.0 in absurd (omega (arith, reserve, few))

  moves : {x y : ℕ} (now : List ℕ) → MovedBlock g block true x y image now → Moves g block x y image now
  moves now done =
      let cleaned = done.cleaned.cleaned in
      record {
        moved = done;
        reserve = done.reserve may_cut;
        next = next_rises g image done.middle block cleaned.before.magic cleaned.after.magic cleaned.within done.cleaned.count done.cleaned.others;
        few = omega (arith, done.few, done.freed.cleanings.few);
      }

  pub was_moved : {x y : ℕ} (met : Bool) (now : List ℕ) → MovedBlock g block met x y image now → PickDone g limit x y image now (Moved block age)
  was_moved met now done = (pick, moves now (is_met met now done))

-- ---- after blocks that are worth it were cleaned

module _ (g : Geometry) (limit : ℕ) (a : List ℕ) (is : IsImage g a) (tidy : IsTidy g a) where
  pub step_begins : {x y z : ℕ} → Begins g a (freeing 3 x y) (scrubbing limit x z)
  step_begins = record { needs = tidy; cut = λ c cut. record { keeps = cut.keeps; mends = λ reserve. cut.mends (reserve_can_clean g a is tidy reserve) } }

  -- two blocks are free where they were
  kept : {x y : ℕ} (met : Bool) (b : List ℕ) → FreedUp g 3 met x y a b → HasReserve g a → HasReserve g b
  kept met b freed reserve = by met freed.stops
    where
      by : (m : Bool) → FreeStops g 3 m a b → HasReserve g b
      by true stops = omega (arith, stops)
      by false stops = stopped_has_reserve g b (freed.cleanings.again (reserve_can_clean g a is tidy reserve)) stops.1

  pub step_ends : {x y z : ℕ} (met : Bool) (b : List ℕ) → (IsLevel g a limit → ⊥) → FreedUp g 3 met x y a b → Finishes g a b (moving_picked limit y z) (scrubbing limit x z)
  step_ends {x} {y} {z} met b old freed = record {
    needs = (freed.cleanings.image, freed.cleanings.tidy);
    cut = λ c cut. record {
      keeps = keeps-on g a b c (both_keep g a b tidy freed.cleanings.tidy freed.cleanings.table) cut.keeps;
      mends = λ reserve. cut.mends (kept met b freed reserve);
    };
    done = λ c scrub done. inr (old, record { met = met; middle = b; between = y; freed = freed; reserve = kept met b freed; done = done });
  }

-- ---- nothing is to move

-- where no block is worth cleaning none was cleaned
none_swept : (g : Geometry) (a b : List ℕ) (through : List (List ℕ)) → chosen_block g a ≡ None → SweptAlong g a through b → through ≡ []
unfolding SweptAlong
none_swept g a b [] none steps = refl
none_swept g a b (before ∷ []) none steps =
    let swept = steps.1.swept in
    let chosen : chosen_block g a ≡ Some swept.block = subst (λ (l : List ℕ). chosen_block g l ≡ Some swept.block) steps.0 swept.chosen in
    absurd (let bad : ◌≡◌ {A = Option ℕ} None (Some swept.block) = sym none ∙ chosen in cc)
none_swept g a b (before ∷ more ∷ rest) none steps = absurd (let bad : ◌≡◌ {A = List (List ℕ)} (more ∷ rest) [] = none_swept g a before (more ∷ rest) none steps.0 in cc)

along_none : (g : Geometry) (a b : List ℕ) (through : List (List ℕ)) → through ≡ [] → SweptAlong g a through b → b ≡ a
unfolding SweptAlong
along_none g a b [] is steps = steps
along_none g a b (x ∷ more) is steps = absurd (cc)

costs_none : (g : Geometry) (through : List (List ℕ)) → through ≡ [] → cost_of g through ≡ 0
unfolding cost_of
costs_none g [] is = refl
costs_none g (x ∷ more) is = absurd (cc)

-- where there is no victim none was moved
none_picked : (g : Geometry) (limit before after : ℕ) (was now : List ℕ) (scrub : Scrub) → HasNoVictim g was limit → PickDone g limit before after was now scrub → after ≤ before
none_picked g limit before after was now (NoRoom free) isnt done = done.2
none_picked g limit before after was now Rested isnt done = done.2
none_picked g limit before after was now (Moved block age) isnt done =
    let is = done.0.0 in
    absurd (isnt block is.below is.used (omega (arith, is.age, is.old)) is.may)

-- nothing is programmed or erased then
pub rest_is_quiet : (g : Geometry) (limit before after : ℕ) (was now : List ℕ) (scrub : Scrub) → IsAtRest g was limit → ScrubDone g limit before after was now scrub → after ≤ before
rest_is_quiet g limit before after was now scrub rest done = ⊎_elim (λ none. none.3) (λ made. ⊎_elim (λ level. absurd (made.0 level)) (λ none. quiet made.1 none.0 none.1) rest) done
  where
    quiet : StepMade g limit before after was now scrub → chosen_block g was ≡ None → HasNoVictim g was limit → after ≤ before
    quiet made none isnt =
        let swept = made.freed.cleanings.swept in
        let empty = none_swept g was made.middle swept.through none swept.steps in
        let same : made.middle ≡ was = along_none g was made.middle swept.through empty swept.steps in
        let last = none_picked g limit made.between after made.middle now scrub (subst (λ (l : List ℕ). HasNoVictim g l limit) (sym same) isnt) made.done in
        omega (arith, last, made.freed.cleanings.few, costs_none g swept.through empty)
