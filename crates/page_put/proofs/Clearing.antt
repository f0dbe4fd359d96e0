-- A byte that is asked of another clears one bit of it.
use Rattle.std.proofs.Common.{◌≡◌, ◌≢◌, ℕ, ◌+◌, ◌<◌, ◌≤◌, List, [], ◌∷◌, slice_index, true, ◌==◌, ◌||◌, refl, sym, ◌∙◌, arith, ⊎_elim}
use Rattle.std.specs.Prelude.{bit_and}
use Rattle.std.specs.Int.{bit_at}
use Rattle.std.proofs.lemmas.Nat.{and_le_l}
use Rattle.std.proofs.lemmas.Nat.Bits.{bit_at_and, bit_at_above, same_from_bits, bit_at-lt}
use Rattle.std.proofs.lemmas.Bool.{cases_lt, agree_below_at, or_cases, eqb-true}
use Rattle.nor_core.specs.Flash.{HalfProgrammed, IsBetween, programmed}
use Rattle.image_laws.specs.Flash.{Programmed}
use Rattle.image_laws.specs.Programs.{ClearsBit}
use Rattle.image_laws.proofs.Finished.{finished-programmed}

and_twice : (x y : ℕ) → bit_and x (bit_and x y) ≡ bit_and x y
and_twice x y = same_from_bits _ _ (λ j. let one = bit_at_and x (bit_and x y) j in let two = bit_at_and x y j in omega (arith, one, two))

between : (old asked x : ℕ) → IsBetween old asked x → IsBetween old (bit_and old asked) x
between old asked x h = record { kept = rw (and_twice old asked) h.kept; cleared = h.cleared }

-- ---- a program of one byte leaves what a program of the byte that is left leaves

pub left_half : (at asked : ℕ) (a b : List ℕ) → HalfProgrammed at (asked ∷ []) a b → HalfProgrammed at (bit_and (slice_index a at) asked ∷ []) a b
left_half at asked a b half = record {
  outside = half.outside;
  inside = λ k within.
      let here : k ≡ 0 = omega arith in
      let zero : at + 0 ≡ at = omega arith in
      rw (here, zero) (between (slice_index a at) asked (slice_index b at) (rw zero at (half.inside 0 (omega arith))));
}

pub left_done : (at asked : ℕ) (a : List ℕ) → Programmed at (bit_and (slice_index a at) asked ∷ []) a (programmed a at (asked ∷ []))
left_done at asked a =
    let done = finished-programmed at (asked ∷ []) a in
    record {
      outside = done.outside;
      bytes = λ k within.
          let here : k ≡ 0 = omega arith in
          let zero : at + 0 ≡ at = omega arith in
          rw (here, zero) ((rw zero at (done.bytes 0 (omega arith))) ∙ sym (and_twice (slice_index a at) asked));
    }

-- ---- bits 6 and 7

kept_bits : (k mask : ℕ) → bit_at mask k ≡ 0 → ((j : ℕ) → j < 8 → j ≢ k → bit_at mask j ≡ 1) → (x : ℕ) → x < 256 → bit_at x k ≡ 1 → ClearsBit k x (bit_and x mask)
kept_bits k mask zero ones x small set = record {
  set = set;
  cleared = let e = bit_at_and x mask k in omega (arith, e, zero);
  others = λ j other. ⊎_elim
      (λ (low : j < 8). let e = bit_at_and x mask j in let one = ones j low other in let bit = bit_at-lt x j in omega (arith, e, one, bit))
      (λ (high : 8 ≤ j). let e = bit_at_and x mask j in let none : bit_at x j ≡ 0 = bit_at_above x 8 j small high in omega (arith, e, none))
      (cases_lt j 8);
}

all_but : (k mask j : ℕ) → ((j == k) || (bit_at mask j == 1)) ≡ true → j ≢ k → bit_at mask j ≡ 1
all_but k mask j one other = ⊎_elim (λ (e : (j == k) ≡ true). absurd (other (eqb-true j k e))) (λ (e : (bit_at mask j == 1) ≡ true). eqb-true _ 1 e) (or_cases _ _ one)

-- the byte without IXDELE, and without DELET
pub clears_mark : (x : ℕ) → x < 256 → bit_at x 6 ≡ 1 → ClearsBit 6 x (bit_and x 0xBF)
clears_mark = kept_bits 6 0xBF refl (λ j low other. all_but 6 0xBF j (agree_below_at (λ (i : ℕ). (i == 6) || (bit_at 0xBF i == 1)) (λ (i : ℕ). true) 8 j refl low) other)

pub clears_deleted : (x : ℕ) → x < 256 → bit_at x 7 ≡ 1 → ClearsBit 7 x (bit_and x 0x7F)
clears_deleted = kept_bits 7 0x7F refl (λ j low other. all_but 7 0x7F j (agree_below_at (λ (i : ℕ). (i == 7) || (bit_at 0x7F i == 1)) (λ (i : ℕ). true) 8 j refl low) other)

-- what is left of a byte is a byte
pub below_byte : (x mask : ℕ) → x < 256 → bit_and x mask < 256
below_byte x mask small = let less = and_le_l x mask in omega (arith, less, small)
