-- How often a count reads.
use Rattle.std.proofs.Common.{◌≡◌, ℕ, ◌+◌, ◌/◌, ◌≤◌, List, length, subst, arith}
use Rattle.std.proofs.Math.Nat.{le-div_iff_mul-le}
use Rattle.geometry.proofs.Bounds.{few_pages}
use Rattle.geometry.specs.declared.geometry.Geometry.{Geometry}
use Rattle.geometry.specs.Numbers.{page_count}
use Rattle.page_cache.specs.Frames.{frame_count, held}
use Rattle.page_cache.specs.Kept.{FewReads}
use Rattle.page_cache.proofs.Held.{held_most}
use Rattle.nor_core.specs.declared.state.NorState.{Ghosts as NorOf}
use Rattle.meta_guess.specs.Guesses.{ReadsOnce}

module _ {D : Type 0} {nor : NorOf D} {g : Geometry} where
  -- by frames that held no page
  pub reads_once : {old new : D} (a b : List ℕ) (cache : ℕ) → FewReads nor g old a new b → held g a ≡ 0 → length a ≡ cache → ReadsOnce nor g cache old new
  unfolding frame_count
  reads_once a b cache few none size = record {
    few = λ room calm.
        let frames : page_count g ≤ length a / (g.page + 8) = (le-div_iff_mul-le {k = g.page + 8} {x = page_count g} {y = length a} (omega arith)).1 (omega (arith, room, size)) in
        let many : page_count g ≤ frame_count g a = omega (arith, frames, few_pages g) in
        omega (arith, few.few many calm, none, held_most g b);
  }

  -- the same device by another name
  pub reads_as : {old mid new : D} (cache : ℕ) → ReadsOnce nor g cache old mid → mid ≡ new → ReadsOnce nor g cache old new
  reads_as {old} {mid} {new} cache reads same = subst (λ (d : D). ReadsOnce nor g cache old d) same reads
