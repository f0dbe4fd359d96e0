-- How often a command reads, and what it leaves of the bytes behind the volume.
use Rattle.std.proofs.Common.{◌≡◌, ℕ, ◌+◌, ◌/◌, ◌≤◌, List, length, subst, arith}
use Rattle.std.proofs.Math.Nat.{le-div_iff_mul-le}
use Rattle.geometry.proofs.Bounds.{few_pages}
use Rattle.geometry.specs.declared.geometry.Geometry.{Geometry}
use Rattle.geometry.specs.Numbers.{page_count}
use Rattle.page_cache.specs.Frames.{frame_count, held}
use Rattle.page_cache.specs.Kept.{FewReads}
use Rattle.page_cache.proofs.Held.{held_most}
use Rattle.nor_core.specs.declared.state.NorState.{Ghosts as NorOf}
use Rattle.nor_core.specs.Device.{Says}
use Rattle.flash_view.specs.Same.{StaysBehind}
use Rattle.flash_view.proofs.Behind.{behind_then, behind_said}
use Rattle.tool_parts.specs.Endings.{ClosesWith}
use Rattle.tool_parts.specs.Reads.{ReadsOnce}

module _ {D : Type 0} {nor : NorOf D} {g : Geometry} where
  -- a listing by frames that held no page
  pub reads_once : {old new : D} (a b : List ℕ) (cache : ℕ) → FewReads nor g old a new b → held g a ≡ 0 → length a ≡ cache → ReadsOnce nor g cache old new
  unfolding frame_count
  reads_once a b cache few none size = record {
    few = λ room calm.
        let frames : page_count g ≤ length a / (g.page + 8) = (le-div_iff_mul-le {k = g.page + 8} {x = page_count g} {y = length a} (omega arith)).1 (omega (arith, room, size)) in
        let many : page_count g ≤ frame_count g a = omega (arith, frames, few_pages g) in
        omega (arith, few.few many calm, none, held_most g b);
  }

  -- saying reads nothing
  pub reads_said : {old mid new : D} {piece : List ℕ} (cache : ℕ) → ReadsOnce nor g cache old mid → Says nor mid new piece → nor.faults mid ≤ nor.faults new → ReadsOnce nor g cache old new
  reads_said cache reads says faults = record { few = λ room calm. omega (arith, reads.few room (λ rose. calm (omega (arith, rose, faults))), says.reads) }

  -- nor does it change a byte
  pub behind_closed : {old mid new : D} {line : List ℕ} {wanted status : ℕ} → StaysBehind nor g old mid → ClosesWith nor mid new line wanted status → StaysBehind nor g old new
  behind_closed behind closes = behind_then g behind (behind_said g _ closes.says closes.cuts)

  -- the same device by another name
  pub reads_as : {old mid new : D} (cache : ℕ) → ReadsOnce nor g cache old mid → mid ≡ new → ReadsOnce nor g cache old new
  reads_as {old} {mid} {new} cache reads same = subst (λ (d : D). ReadsOnce nor g cache old d) same reads

  pub behind_as : {old mid new : D} → StaysBehind nor g old mid → mid ≡ new → StaysBehind nor g old new
  behind_as {old} {mid} {new} behind same = subst (λ (d : D). StaysBehind nor g old d) same behind
