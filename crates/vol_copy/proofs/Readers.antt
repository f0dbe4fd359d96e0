-- Calls of the source, one after the other.
use Rattle.std.proofs.Common.{◌∙◌, refl, subst, arith}
use Rattle.geometry.specs.declared.geometry.Geometry.{Geometry}
use Rattle.nor_core.specs.declared.state.NorState.{Ghosts as NorOf}
use Rattle.page_cache.specs.Kept.{FewReads}
use Rattle.page_cache.proofs.Held.{few_none, few_then}
use Rattle.vol_mount.specs.declared.reader.Reader.{Reader}
use Rattle.vol_mount.specs.Readers.{IsSameReader}

module _ {N : Type 0} {nor : NorOf N} where
  pub reader_then : {old mid new : Reader N nor} → IsSameReader old mid → IsSameReader mid new → IsSameReader old new
  reader_then {old} {mid} {new} first second = record {
    geometry = second.geometry ∙ first.geometry;
    nor_name = second.nor_name ∙ first.nor_name;
    work_name = second.work_name ∙ first.work_name;
    cache_name = second.cache_name ∙ first.cache_name;
    check_name = second.check_name ∙ first.check_name;
    cache_size = second.cache_size ∙ first.cache_size;
    known = λ known. second.known (first.known known);
    faults = omega (arith, first.faults, second.faults);
    few = few_then _ first.cache_size first.faults second.faults first.few (subst (λ (g : Geometry). FewReads nor g mid.nor.now mid.cache.now new.nor.now new.cache.now) first.geometry second.few);
  }

  pub reader_none : (r : Reader N nor) → IsSameReader r r
  reader_none r = record {
    geometry = refl;
    nor_name = refl;
    work_name = refl;
    cache_name = refl;
    check_name = refl;
    cache_size = refl;
    known = λ known. known;
    faults = omega arith;
    few = few_none r.geometry r.nor.now r.cache.now;
  }
