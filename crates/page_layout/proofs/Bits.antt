-- A flag that is tested or cleared by its mask.
use Rattle.std.proofs.Common.{ℕ, ◌≡◌, ◌+◌, ◌*◌, ◌%◌, ◌^◌, ◌<◌, ◌≤◌, not, ◌==◌, bit_and, bit_or, lit≤, ⊎_elim, arith, sym, ◌∙◌, ap}
use Rattle.std.specs.Int.{bit_at, bit_not, w8}
use Rattle.std.proofs.lemmas.Nat.Bits.{and_pow, bit_at-lt, bit_at_clear_same, bit_at_clear_other, bit_at_above}
use Rattle.std.proofs.lemmas.Nat.{pow_pos, and_le_l, or_disjoint}
use Rattle.std.proofs.lemmas.Bool.{cases_lt}
use Rattle.std.proofs.lemmas.Grind.{common_steps}
use Rattle.page_layout.specs.Layout.{is_bit_set, ClearsBit}

-- a bit times something is 0 exactly where it is not 1
bit_times : (b m : ℕ) → b < 2 → 0 < m → (b * m == 0) ≡ not (b == 1)
bit_times b m small some = grind (arith, common_steps)

-- a mask of one bit gives 0 exactly where the bit is not set
pub mask_test : (n k : ℕ) → (bit_and n (2 ^ k) == 0) ≡ not (is_bit_set n k)
mask_test n k = rw (and_pow n k) (bit_times (bit_at n k) (2 ^ k) (bit_at-lt n k) (pow_pos k))

-- the mask of all bits but one clears that one
pub mask_clears : (n k : ℕ) → k < 8 → n < 256 → ClearsBit k n (bit_and n (bit_not w8 (1 * 2 ^ k % 256)))
mask_clears n k within small = record {
  cleared = bit_at_clear_same w8 n k within;
  others = λ j other.
      ⊎_elim
      (λ (low : j < 8). bit_at_clear_other w8 n k within j low other)
      (λ (high : 8 ≤ j). bit_at_above _ 8 j (omega (arith, and_le_l n (bit_not w8 (1 * 2 ^ k % 256)))) high ∙ sym (bit_at_above n 8 j small high))
      (cases_lt j 8);
}

-- bit 15 set in a number below it adds it
pub top_bit : (id : ℕ) → id < 0x8000 → bit_or id 0x8000 ≡ id + 0x8000
top_bit id small = or_disjoint id 0x8000 (and_pow id 15 ∙ ap (λ (b : ℕ). b * 0x8000) (bit_at_above id 15 15 small (lit≤ tt)))
