-- Looking at a volume time after time.
use Rattle.std.proofs.Common.{◌≡◌, List, ℕ, ◌∙◌, true, false, refl, sym, subst, ⊎_elim, take, arith}
use Rattle.std.proofs.lemmas.Bool.{cases_Bool}
use Rattle.nor_core.proofs.Cuts.{reads_then, reads_none}
use Rattle.nor_core.specs.declared.state.NorState.{Ghosts as NorOf}
use Rattle.geometry.specs.declared.geometry.Geometry.{Geometry}
use Rattle.page_cache.specs.Kept.{FewReads}
use Rattle.page_cache.proofs.Held.{few_none, few_then}
use Rattle.flash_view.specs.declared.view.View.{View}
use Rattle.flash_view.specs.Same.{StaysBehind, IsSameView, OnlyLooks, OnlyCounts}
use Rattle.flash_view.proofs.Behind.{behind_none, behind_then}

module _ {N : Type 0} {nor : NorOf N} where
  pub same_then : {old mid new : View N nor} → IsSameView old mid → IsSameView mid new → IsSameView old new
  same_then {old} {mid} {new} first second = record {
    geometry = second.geometry ∙ first.geometry;
    nor_name = second.nor_name ∙ first.nor_name;
    work_name = second.work_name ∙ first.work_name;
    rows_name = second.rows_name ∙ first.rows_name;
    cache_name = second.cache_name ∙ first.cache_name;
    cache_size = second.cache_size ∙ first.cache_size;
    behind = behind_then _ first.behind (subst (λ (g : Geometry). StaysBehind nor g mid.nor.now new.nor.now) first.geometry second.behind);
    faults = omega (arith, first.faults, second.faults);
    writes = omega (arith, first.writes, second.writes);
    asked = λ before after. ⊎_elim
        (λ (yes : mid.wrote ≡ true). let rose = first.asked before yes in omega (arith, rose, second.writes))
        (λ (no : mid.wrote ≡ false). let rose = second.asked no after in omega (arith, rose, first.writes))
        (cases_Bool mid.wrote);
    few = few_then _ first.cache_size first.faults second.faults first.few (subst (λ (g : Geometry). FewReads nor g mid.nor.now mid.cache.now new.nor.now new.cache.now) first.geometry second.few);
  }

  pub same_none : (v : View N nor) → IsSameView v v
  same_none v = record { geometry = refl; nor_name = refl; work_name = refl; rows_name = refl; cache_name = refl; cache_size = refl; behind = behind_none v.geometry v.nor.now; faults = omega arith; writes = omega arith; asked = λ before after. let bad : true ≡ false = sym after ∙ before in absurd (cc); few = few_none v.geometry v.nor.now v.cache.now }

  pub looks_then : {old mid new : View N nor} → OnlyLooks old mid → OnlyLooks mid new → OnlyLooks old new
  looks_then first second = record { reads = reads_then first.reads second.reads; wrote = second.wrote ∙ first.wrote; counted = second.counted ∙ first.counted; rows = second.rows ∙ first.rows; same = same_then first.same second.same }

  pub looks_none : (v : View N nor) → OnlyLooks v v
  looks_none v = record { reads = reads_none v.nor.now; wrote = refl; counted = refl; rows = refl; same = same_none v }

  pub looks_counts : {old new : View N nor} → OnlyLooks old new → OnlyCounts old new
  looks_counts looks = record { reads = looks.reads; wrote = looks.wrote; same = looks.same }

  pub counts_then : {old mid new : View N nor} → OnlyCounts old mid → OnlyCounts mid new → OnlyCounts old new
  counts_then first second = record { reads = reads_then first.reads second.reads; wrote = second.wrote ∙ first.wrote; same = same_then first.same second.same }

  -- the page that is being built stays from call to call
  pub built_then : {old mid : View N nor} → OnlyLooks old mid → take old.geometry.page mid.work.now ≡ take old.geometry.page old.work.now → (now : List ℕ) → take mid.geometry.page now ≡ take mid.geometry.page mid.work.now →
      take old.geometry.page now ≡ take old.geometry.page old.work.now
  built_then {old} {mid} looks first now second = subst (λ (g : Geometry). take g.page now ≡ take g.page mid.work.now) looks.same.geometry second ∙ first
