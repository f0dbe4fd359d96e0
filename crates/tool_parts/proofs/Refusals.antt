-- Which images are refused, and how.
use Rattle.std.proofs.Common.{◌≡◌, ℕ, ◌<◌, ◌≤◌, ◌⊎◌, List, ◌∷◌, length, refl, sym, ◌∙◌, ap, arith, inl, inr, ⊎_elim, Bool, true, false, cond, Option, Some, None}
use Rattle.std.proofs.lemmas.Bool.{cases_Bool}
use Rattle.std.proofs.lemmas.Bool.Decides.{nat_tests}
use Rattle.std.specs.Prelude.{nat_lt, not, unwrap_or}
use Rattle.geometry.specs.declared.geometry.Geometry.{Geometry}
use Rattle.image_model.specs.Tables.{damaged_of}
use Rattle.image_model.specs.Places.{has_magic}
use Rattle.image_model.specs.Tidy.{IsTidy, HasReserve, free_blocks}
use Rattle.image_model.specs.Kinds.{spoiled_blocks}
use Rattle.image_model.specs.Shared.{shared_blocks, fits_over, FitsWith}
use Rattle.image_laws.proofs.Matching.{filter-none_in}
use Rattle.image_laws.proofs.Unshared.{tidy-unshared, fits-tested}
use Rattle.room_laws.proofs.Staying.{reserve_mends}
use Rattle.call_model.specs.Safe.{ComesBack, IsSafe}
use Rattle.call_model.proofs.Mounts.{cuts_keep_magics}
use Rattle.tool_parts.specs.declared.ending.Ending.{Ending}
use Rattle.tool_parts.specs.declared.ending.Ending.TheVariants.{Done, NotAFs, Mixed, Damaged, Tight}
use Rattle.tool_parts.specs.Closing.{status_of, closing_line_of}
use Rattle.tool_parts.specs.Refusals.{mount_refusal, check_refusal, tight_refusal, or_ending, begin_refusal, report_ending, check_ending}
use Rattle.tool_parts.specs.Mounting.{IsMendable}

below : (m n : ℕ) → m < n → nat_lt m n ≡ true
below m n h = grind (arith, nat_tests)

not_below : (m n : ℕ) → n ≤ m → nat_lt m n ≡ false
not_below m n h = grind (arith, nat_tests)

-- there is one, or none
pub option_cases : (o : Option Ending) → (o ≡ None) ⊎ ((ending : Ending) × (o ≡ Some ending))
option_cases None = inl refl
option_cases (Some ending) = inr (ending, refl)

pub not_both : {o : Option Ending} {ending : Ending} → o ≡ None → o ≡ Some ending → ⊥
not_both none some = cc

pub mount_two : (g : Geometry) (image : List ℕ) (spoiled : ℕ) → spoiled ≡ spoiled_blocks g image → 2 ≤ spoiled → mount_refusal g image ≡ Some (NotAFs spoiled)
unfolding mount_refusal
mount_two g image spoiled is two = rw (below 1 (spoiled_blocks g image) (omega (arith, is, two))) (ap (λ (n : ℕ). Some (NotAFs n)) (sym is))

pub mount_few : (g : Geometry) (image : List ℕ) → spoiled_blocks g image ≤ 1 → mount_refusal g image ≡ None
unfolding mount_refusal
mount_few g image few = rw (not_below 1 (spoiled_blocks g image) few) refl

pub check_two : (g : Geometry) (image : List ℕ) (spoiled : ℕ) → spoiled ≡ spoiled_blocks g image → 2 ≤ spoiled → check_refusal g image ≡ Some (NotAFs spoiled)
unfolding check_refusal
check_two g image spoiled is two = rw (below 1 (spoiled_blocks g image) (omega (arith, is, two))) (ap (λ (n : ℕ). Some (NotAFs n)) (sym is))

pub check_over : (g : Geometry) (image : List ℕ) (blocks : ℕ) → spoiled_blocks g image ≤ 1 → blocks ≡ shared_blocks g image → fits_over g image ≡ false → check_refusal g image ≡ Some (Mixed blocks)
unfolding check_refusal
check_over g image blocks few is over = rw (not_below 1 (spoiled_blocks g image) few) (rw over (ap (λ (n : ℕ). Some (Mixed n)) (sym is)))

check_fits : (g : Geometry) (image : List ℕ) → spoiled_blocks g image ≤ 1 → fits_over g image ≡ true → check_refusal g image ≡ None
unfolding check_refusal
check_fits g image few fits = rw (not_below 1 (spoiled_blocks g image) few) (rw fits refl)

pub check_takes : (g : Geometry) (image : List ℕ) → spoiled_blocks g image ≤ 1 → FitsWith g image 0 → check_refusal g image ≡ None
check_takes g image few fits = check_fits g image few ((fits-tested g image).1 fits)

-- one that mounts and isn't taken doesn't fit over
pub over_of : (g : Geometry) (image : List ℕ) (why : Ending) → spoiled_blocks g image ≤ 1 → check_refusal g image ≡ Some why → fits_over g image ≡ false
over_of g image why few is = ⊎_elim
    (λ (fits : fits_over g image ≡ true). absurd (not_both (check_fits g image few fits) is))
    (λ (over : fits_over g image ≡ false). over)
    (cases_Bool (fits_over g image))

-- ---- tidy images, and what a cut leaves of them

pub no_spoiled : (g : Geometry) (image : List ℕ) → IsTidy g image → spoiled_blocks g image ≡ 0
unfolding spoiled_blocks
no_spoiled g image tidy = filter-none_in (λ (block : ℕ). not (has_magic g image block)) 0 g.blocks (λ block low high. rw (tidy.magic block (omega (arith, high))) refl)

pub tidy_taken : (g : Geometry) (image : List ℕ) → IsTidy g image → check_refusal g image ≡ None
tidy_taken g image tidy = check_takes g image (omega (arith, no_spoiled g image tidy)) (inl (tidy-unshared g image tidy))

-- where two blocks are free a check leaves two
pub reserve_back : (g : Geometry) (image : List ℕ) → HasReserve g image → ComesBack g image
reserve_back g image reserve = record { recovers = reserve_mends g image reserve; parts = inr reserve }

pub tidy_mends : (g : Geometry) (image : List ℕ) → IsTidy g image → HasReserve g image → IsMendable g image
tidy_mends g image tidy reserve = record { takes = tidy_taken g image tidy; comes_back = reserve_back g image reserve }

pub safe_mends : (g : Geometry) (was image : List ℕ) → IsTidy g was → HasReserve g was → IsSafe g was image → IsMendable g image
safe_mends g was image tidy reserve safe = record {
  takes = check_takes g image (cuts_keep_magics g was image (omega (arith, no_spoiled g was tidy)) safe) (safe.fits 0 (inl (tidy-unshared g was tidy)));
  comes_back = safe.mends reserve;
}

pub tight_some : (g : Geometry) (image : List ℕ) (free : ℕ) → free ≡ free_blocks g image → free < 2 → tight_refusal g image ≡ Some (Tight free)
unfolding tight_refusal
tight_some g image free is few = rw (below (free_blocks g image) 2 (omega (arith, is, few))) (ap (λ (n : ℕ). Some (Tight n)) (sym is))

pub tight_none : (g : Geometry) (image : List ℕ) → 2 ≤ free_blocks g image → tight_refusal g image ≡ None
unfolding tight_refusal
tight_none g image enough = rw (not_below (free_blocks g image) 2 enough) refl

pick : (b c : Bool) (m n : ℕ) (ending : Ending) → cond b (Some (NotAFs m)) (cond c (Some (Mixed n)) None) ≡ Some ending → (ending ≡ NotAFs m) ⊎ (ending ≡ Mixed n)
pick true c m n ending is = inl cc
pick false true m n ending is = inr cc
pick false false m n ending is = cc

pub refusal_is : (g : Geometry) (image : List ℕ) (ending : Ending) → check_refusal g image ≡ Some ending → (ending ≡ NotAFs (spoiled_blocks g image)) ⊎ (ending ≡ Mixed (shared_blocks g image))
unfolding check_refusal
refusal_is g image ending is = pick (nat_lt 1 (spoiled_blocks g image)) (not (fits_over g image)) (spoiled_blocks g image) (shared_blocks g image) ending is

-- no image that isn't taken ends a command for want of free blocks
pub no_tight : (g : Geometry) (image : List ℕ) (ending : Ending) (n : ℕ) → check_refusal g image ≡ Some ending → ending ≡ Tight n → ⊥
no_tight g image ending n is tight = ⊎_elim (λ two. cc) (λ mixed. cc) (refusal_is g image ending is)

-- its closing line begins so
pub refusal_line : (g : Geometry) (image : List ℕ) (ending : Ending) → check_refusal g image ≡ Some ending → (xs : List ℕ) × (closing_line_of ending ≡ 33 ∷ xs)
refusal_line g image ending is = ⊎_elim
    (λ two. (_, ap closing_line_of two))
    (λ mixed. (_, ap closing_line_of mixed))
    (refusal_is g image ending is)

or_cases : (o p : Option Ending) (ending : Ending) → or_ending o p ≡ Some ending → (o ≡ Some ending) ⊎ (p ≡ Some ending)
or_cases None p ending is = inr is
or_cases (Some first) p ending is = inl is

pick_tight : (b : Bool) (n : ℕ) (ending : Ending) → cond b (Some (Tight n)) None ≡ Some ending → ending ≡ Tight n
pick_tight true n ending is = cc
pick_tight false n ending is = cc

tight_is : (g : Geometry) (image : List ℕ) (ending : Ending) → tight_refusal g image ≡ Some ending → ending ≡ Tight (free_blocks g image)
unfolding tight_refusal
tight_is g image ending is = pick_tight (nat_lt (free_blocks g image) 2) (free_blocks g image) ending is

-- a run that is ended by its images isn't done
pub begin_undone : (g : Geometry) (was now : List ℕ) (ending : Ending) → begin_refusal g was now ≡ Some ending → status_of ending ≡ 0 → ⊥
begin_undone g was now ending is done = ⊎_elim
    (λ refused. ⊎_elim
    (λ two. omega (arith, done, ap status_of two))
    (λ mixed. omega (arith, done, ap status_of mixed))
    (refusal_is g was ending refused))
    (λ tight. omega (arith, done, ap status_of (tight_is g now ending tight)))
    (or_cases (check_refusal g was) (tight_refusal g now) ending is)

-- ---- two free blocks

some_or_none : (b : Bool) (free : ℕ) → cond b (Some (Tight free)) None ≡ None → b ≡ false
some_or_none true free is = let bad : Some (Tight free) ≡ None = is in cc
some_or_none false free is = refl

later_none : (o p : Option Ending) → or_ending o p ≡ None → p ≡ None
later_none None p is = is
later_none (Some ending) p is = let bad : Some ending ≡ None = is in cc

-- where the images don't end a run, two blocks are free in the last one
pub begun_reserve : (g : Geometry) (was now : List ℕ) → begin_refusal g was now ≡ None → HasReserve g now
unfolding tight_refusal
begun_reserve g was now is =
    let enough : nat_lt (free_blocks g now) 2 ≡ false = some_or_none (nat_lt (free_blocks g now) 2) (free_blocks g now) (later_none (check_refusal g was) (tight_refusal g now) is) in
    grind (arith, nat_tests)

pick_report : (b c : Bool) (damaged free : ℕ) → c ≡ false → status_of (cond b (Damaged damaged) (cond c (Tight free) Done)) ≡ 14 → ⊥
pick_report true c damaged free enough is = omega (arith, is)
pick_report false true damaged free enough is = let bad : true ≡ false = enough in cc
pick_report false false damaged free enough is = omega (arith, is)

-- a check that left them isn't told as one that left fewer
pub check_not_tight : (g : Geometry) (was now : List ℕ) → check_refusal g was ≡ None → HasReserve g now → status_of (check_ending g was now) ≡ 14 → ⊥
check_not_tight g was now takes reserve is =
    let text : check_ending g was now ≡ report_ending (length (damaged_of g was)) (free_blocks g now) = ap (λ (o : Option Ending). unwrap_or o (report_ending (length (damaged_of g was)) (free_blocks g now))) takes in
    pick_report (nat_lt 0 (length (damaged_of g was))) (nat_lt (free_blocks g now) 2) (length (damaged_of g was)) (free_blocks g now) (not_below (free_blocks g now) 2 reserve) (sym (ap status_of text) ∙ is)
