-- Scrub steps, one after the other, over images.
use Rattle.std.proofs.Common.{◌≡◌, ℕ, suc, ◌+◌, ◌≤◌, List, true, false, refl, sym, ◌∙◌, subst, arith, None}
use Rattle.std.specs.Prelude.{Some}
use Rattle.geometry.specs.declared.geometry.Geometry.{Geometry}
use Rattle.image_model.specs.Tidy.{IsTidy, HasReserve}
use Rattle.call_model.proofs.Safety.{holds_then, holds_itself}
use Rattle.wear_scrub.specs.declared.scrubs.Scrub.{Scrub}
use Rattle.tool_core.specs.Scrubbing.{has_moved, HasMoved, EachMoved, StepsMade, IsStepDone, Scrubbed}

module _ (g : Geometry) (limit : ℕ) where
  -- no step
  pub made_none : (image : List ℕ) → IsTidy g image → StepsMade g limit 0 image image
  unfolding EachMoved
  made_none image tidy = record { tidy = tidy; table = refl; holds = holds_itself g image; each = refl }

  each_more : (n : ℕ) (was mid now : List ℕ) → EachMoved g limit n was mid → HasMoved g limit mid now → EachMoved g limit (n + 1) was now
  unfolding EachMoved
  each_more n was mid now each step = let same : suc n ≡ n + 1 = omega arith in subst (λ (k : ℕ). EachMoved g limit k was now) same (mid, each, step)

  -- a step more
  pub made_more : (n : ℕ) (was mid now : List ℕ) (scrub : Scrub) → true ≡ has_moved scrub → StepsMade g limit n was mid → IsStepDone g limit mid now scrub → StepsMade g limit (n + 1) was now
  made_more n was mid now scrub is made done = record {
    tidy = done.tidy;
    table = done.table ∙ made.table;
    holds = holds_then g was mid now made.holds done.holds;
    each = each_more n was mid now made.each (record { scrub = scrub; is = sym is; step = done.step });
  }

  -- as many steps as there are blocks
  pub scrubbed_all : (n : ℕ) (was now : List ℕ) → n ≡ g.blocks → HasReserve g was → StepsMade g limit n was now → Scrubbed g limit was now n None
  scrubbed_all n was now all reserve made =
      record { mid = now; made = made; few = omega (arith, all); stops = (all, refl); tidy = made.tidy; table = made.table; holds = made.holds; reserve = made.holds.reserve reserve }

  -- a step that moved none after the others
  pub scrubbed_rest : (n : ℕ) (was mid now : List ℕ) (scrub : Scrub) → false ≡ has_moved scrub → n ≤ g.blocks → HasReserve g was → StepsMade g limit n was mid → IsStepDone g limit mid now scrub →
      Scrubbed g limit was now n (Some scrub)
  scrubbed_rest n was mid now scrub is few reserve made done = record {
    mid = mid;
    made = made;
    few = few;
    stops = (sym is, done.step);
    tidy = done.tidy;
    table = done.table ∙ made.table;
    holds = holds_then g was mid now made.holds done.holds;
    reserve = done.holds.reserve (made.holds.reserve reserve);
  }
