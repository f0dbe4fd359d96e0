-- What stays as it was from call to call.
use Rattle.std.proofs.Common.{◌∙◌, refl, subst, arith}
use Rattle.nor_core.specs.declared.state.NorState.{Ghosts as NorOf}
use Rattle.geometry.specs.declared.geometry.Geometry.{Geometry}
use Rattle.page_cache.specs.Kept.{FewReads}
use Rattle.page_cache.proofs.Held.{few_none, few_then}
use Rattle.flash_view.specs.Same.{StaysBehind}
use Rattle.flash_view.proofs.Behind.{behind_none, behind_then}
use Rattle.volume.specs.declared.volume.Volume.{Volume}
use Rattle.volume.specs.Same.{IsSameVolume}

module _ {N : Type 0} {nor : NorOf N} where
  pub same_then : {old mid new : Volume N nor} → IsSameVolume old mid → IsSameVolume mid new → IsSameVolume old new
  same_then {old} {mid} {new} first second = record {
    geometry = second.geometry ∙ first.geometry;
    nor_name = second.nor_name ∙ first.nor_name;
    work_name = second.work_name ∙ first.work_name;
    cache_name = second.cache_name ∙ first.cache_name;
    slots_name = second.slots_name ∙ first.slots_name;
    window_name = second.window_name ∙ first.window_name;
    cache_size = second.cache_size ∙ first.cache_size;
    behind = behind_then _ first.behind (subst (λ (g : Geometry). StaysBehind nor g mid.nor.now new.nor.now) first.geometry second.behind);
    faults = omega (arith, first.faults, second.faults);
    few = few_then _ first.cache_size first.faults second.faults first.few (subst (λ (g : Geometry). FewReads nor g mid.nor.now mid.cache.now new.nor.now new.cache.now) first.geometry second.few);
  }

  pub same_none : (v : Volume N nor) → IsSameVolume v v
  same_none v = record {
    geometry = refl;
    nor_name = refl;
    work_name = refl;
    cache_name = refl;
    slots_name = refl;
    window_name = refl;
    cache_size = refl;
    behind = behind_none v.geometry v.nor.now;
    faults = omega arith;
    few = few_none v.geometry v.nor.now v.cache.now;
  }
