-- What calls over a view leave of the bytes behind its volume.
use Rattle.std.proofs.Common.{◌≡◌, ℕ, ◌+◌, ◌*◌, ◌≤◌, ◌++◌, ⊎_elim, List, length, take, drop, replicate, Ok, Err, refl, sym, ◌∙◌, subst, arith, length-append}
use Rattle.std.specs.Prelude.{Option, Result, OnOk, OnErr}
use Rattle.std.proofs.lemmas.List.{length-take, length-drop, length-replicate}
use Rattle.geometry.specs.declared.geometry.Geometry.{Geometry}
use Rattle.nor_core.specs.declared.device.Failed.{Failed}
use Rattle.nor_core.specs.declared.device.Mark.{Mark}
use Rattle.nor_core.specs.declared.state.NorState.{Ghosts as NorOf}
use Rattle.nor_core.specs.Flash.{SameOutside, HalfProgrammed, HalfErased, erased}
use Rattle.nor_core.specs.Device.{OnlyReads, Changes, Leaves, InErase, InSay, Says}
use Rattle.nor_core.proofs.Cuts.{wider, widened, andthen, started, read_on}
use Rattle.image_laws.proofs.Placing.{wider as wide}
use Rattle.page_cache.proofs.Copies.{erased_before, erased_after}
use Rattle.page_cache.proofs.Keeping.{half_outside}
use Rattle.flash_view.specs.Same.{StaysBehind}

-- ---- bytes outside a range

pub same_all : (from count : ℕ) (image : List ℕ) → SameOutside from count image image
same_all from count image = record { size = refl; before = λ k low. refl; after = λ k high. refl }

-- changes of a range one after the other
pub outside_on : (at n : ℕ) (a b c : List ℕ) → SameOutside at n a b → SameOutside at n b c → SameOutside at n a c
outside_on at n a b c x y = record { size = y.size ∙ x.size; before = λ k low. y.before k low ∙ x.before k low; after = λ k high. y.after k high ∙ x.after k high }

-- all outside a part of the front stays, so all behind the front does
unit_only : (at unit end : ℕ) (was image : List ℕ) → at + unit ≤ end → SameOutside at unit was image → SameOutside 0 end was image
unit_only at unit end was image fits same = wide at unit 0 end was image (omega arith) (omega (arith, fits)) same

pub erased_size : (was : List ℕ) (start n : ℕ) → start + n ≤ length was → length (erased was start n) ≡ length was
erased_size was start n fits = omega (arith, length-append (take start was ++ replicate n 255) (drop (start + n) was), length-append (take start was) (replicate n 255), length-take start was, length-drop (start + n) was, length-replicate {A = ℕ} n 255)

pub erased_outside : (was : List ℕ) (start n : ℕ) → start + n ≤ length was → SameOutside start n was (erased was start n)
erased_outside was start n fits = record { size = erased_size was start n fits; before = λ k low. erased_before was start n k fits low; after = λ k high. erased_after was start n k fits high }

after_erase : (at unit end : ℕ) (mark : Option Mark) (was now : List ℕ) (r : Result (Unit {0}) Failed) → at + unit ≤ end → end ≤ length was → OnOk r (now ≡ erased was at unit) → OnErr r (HalfErased at unit mark was now) → SameOutside 0 end was now
after_erase at unit end mark was now (Ok x) fits whole done half = subst (λ (l : List ℕ). SameOutside 0 end was l) (sym done) (unit_only at unit end was _ fits (erased_outside was at unit (omega (arith, fits, whole))))
after_erase at unit end mark was now (Err e) fits whole done half = unit_only at unit end was now fits (half_outside _ _ _ _ _ half)

-- ---- calls of a device that ask for places below an end alone

module _ {N : Type 0} {nor : NorOf N} {old new : N} (end : ℕ) where
  -- a program
  pub inside_program : (at : ℕ) (asked : List ℕ) → at + length asked ≤ end → Changes nor old new (HalfProgrammed at asked) → Changes nor old new (SameOutside 0 end)
  inside_program at asked fits changes = wider changes (λ tells image half. unit_only at (length asked) end (nor.bytes old) image fits half.outside)

  -- an erase
  pub inside_erase : (n : ℕ) (mark : Option Mark) (result : Result (Unit {0}) Failed) → n * nor.unit old + nor.unit old ≤ end → (nor.tells old → end ≤ length (nor.bytes old)) →
      (nor.tells old → OnOk result (nor.bytes new ≡ erased (nor.bytes old) (n * nor.unit old) (nor.unit old))) → (nor.tells old → OnErr result (HalfErased (n * nor.unit old) (nor.unit old) mark (nor.bytes old) (nor.bytes new))) → Changes nor old new (InErase nor old new n mark) →
      Changes nor old new (SameOutside 0 end)
  inside_erase n mark result fits whole done half changes = wider changes (λ tells image cut. ⊎_elim
      (λ (some : HalfErased (n * nor.unit old) (nor.unit old) mark (nor.bytes old) image). unit_only _ _ end _ image fits (half_outside _ _ _ _ _ some))
      (λ (same : image ≡ nor.bytes new). subst (λ (l : List ℕ). SameOutside 0 end (nor.bytes old) l) (sym same) (after_erase _ _ end mark _ _ result fits (whole tells) (done tells) (half tells)))
      cut)

-- ---- the bytes behind a volume

module _ {N : Type 0} {nor : NorOf N} (g : Geometry) where
  -- no call
  pub behind_none : (d : N) → StaysBehind nor g d d
  behind_none d = record { cuts = started d _; now = λ tells. same_all 0 _ (nor.bytes d) }

  -- one call after others
  pub behind_then : {old mid new : N} → StaysBehind nor g old mid → StaysBehind nor g mid new → StaysBehind nor g old new
  behind_then first second = record {
    cuts = andthen first.cuts (widened second.cuts (λ image count here tells. outside_on 0 _ _ _ image (first.now tells) (here (first.cuts.told tells))));
    now = λ tells. outside_on 0 _ _ _ _ (first.now tells) (second.now (first.cuts.told tells));
  }

  module _ {old new : N} where
    -- reads
    pub behind_reads : OnlyReads nor old new → StaysBehind nor g old new
    behind_reads reads = record { cuts = read_on _ reads; now = λ tells. subst (λ (l : List ℕ). SameOutside 0 (g.blocks * g.block) (nor.bytes old) l) (sym reads.bytes) (same_all 0 _ (nor.bytes old)) }

    -- programs and erases in it
    pub behind_changes : Changes nor old new (SameOutside 0 (g.blocks * g.block)) → StaysBehind nor g old new
    behind_changes changes = record { cuts = widened changes.cuts (λ image count here. here.1); now = changes.now }

    -- a program of the volume
    pub behind_program : (at : ℕ) (asked : List ℕ) → at + length asked ≤ g.blocks * g.block → Changes nor old new (HalfProgrammed at asked) → StaysBehind nor g old new
    behind_program at asked fits changes = behind_changes (inside_program (g.blocks * g.block) at asked fits changes)

    -- an erase of a unit of it
    pub behind_erase : (n : ℕ) (mark : Option Mark) (result : Result (Unit {0}) Failed) → (n + 1) * nor.unit old ≤ g.blocks * g.block → (nor.tells old → g.blocks * g.block ≤ length (nor.bytes old)) →
        (nor.tells old → OnOk result (nor.bytes new ≡ erased (nor.bytes old) (n * nor.unit old) (nor.unit old))) → (nor.tells old → OnErr result (HalfErased (n * nor.unit old) (nor.unit old) mark (nor.bytes old) (nor.bytes new))) → Changes nor old new (InErase nor old new n mark) →
        StaysBehind nor g old new
    behind_erase n mark result inside whole done half changes = behind_changes (inside_erase _ n mark result (omega (arith, inside)) whole done half changes)

    -- a piece that the device said
    pub behind_said : (piece : List ℕ) → Says nor old new piece → Leaves nor old new (InSay nor old piece) → StaysBehind nor g old new
    behind_said piece says leaves = record {
      cuts = widened leaves (λ image count here tells. subst (λ (l : List ℕ). SameOutside 0 (g.blocks * g.block) (nor.bytes old) l) (sym (here.all_bytes tells)) (same_all 0 _ (nor.bytes old)));
      now = λ tells. subst (λ (l : List ℕ). SameOutside 0 (g.blocks * g.block) (nor.bytes old) l) (sym says.bytes) (same_all 0 _ (nor.bytes old));
    }
