-- Bits of ids in a row of bytes.
use Rattle.std.proofs.Common.{◌≡◌, ◌≢◌, ℕ, ◌+◌, ◌*◌, ◌/◌, ◌%◌, ◌^◌, ◌<◌, ◌≤◌, ⊎_elim, List, ◌++◌, length, take, drop, refl, sym, ◌∙◌, arith, slice_index, slice_set, get_or}
use Rattle.std.specs.Prelude.{bit_or, bit_and}
use Rattle.std.specs.Int.{w8}
use Rattle.std.proofs.Math.Nat.{div-add-mod}
use Rattle.std.proofs.lemmas.Bool.{cases_lt, cases_eq}
use Rattle.std.proofs.lemmas.List.{drop_at, length-take-le, get_or_append_left, get_or-set_same, get_or-set_other, get_or_past}
use Rattle.std.proofs.lemmas.Nat.Bits.{bit_at_set_same, bit_at_set_other, bit_at-zero, shr_and_one}
use Rattle.page_layout.specs.Ids.{bit_of}

-- two ids whose bits are one are one
same_id : (k id : ℕ) → k / 8 ≡ id / 8 → k % 8 ≡ id % 8 → k ≡ id
same_id k id d m = let a = div-add-mod k 8 in let b = div-add-mod id 8 in omega (arith, a, b, d, m)

-- a bit that is set
pub set_here : (bytes : List ℕ) (i id : ℕ) → i ≡ id / 8 → id / 8 < length bytes → bit_of (slice_set bytes i (bit_or (slice_index bytes i) (1 * 2 ^ (id % 8) % 256))) id ≡ 1
unfolding bit_of
set_here bytes i id at low = let in_bytes : i < length bytes = omega (arith, at, low) in rw (sym at, get_or-set_same bytes i (bit_or (slice_index bytes i) (1 * 2 ^ (id % 8) % 256)) 0 in_bytes) (bit_at_set_same w8 (slice_index bytes i) (id % 8) (omega arith))

-- and all the others
pub set_other : (bytes : List ℕ) (i id k : ℕ) → i ≡ id / 8 → id / 8 < length bytes → k ≢ id → bit_of (slice_set bytes i (bit_or (slice_index bytes i) (1 * 2 ^ (id % 8) % 256))) k ≡ bit_of bytes k
unfolding bit_of
set_other bytes i id k at low other =
    let in_bytes : i < length bytes = omega (arith, at, low) in
    ⊎_elim
    (λ (here : k / 8 ≡ i). rw (here, get_or-set_same bytes i (bit_or (slice_index bytes i) (1 * 2 ^ (id % 8) % 256)) 0 in_bytes) (bit_at_set_other w8 (slice_index bytes i) (id % 8) (omega arith) (k % 8) (λ e. other (same_id k id (here ∙ at) e))))
    (λ (there : k / 8 ≡ i → ⊥). rw (get_or-set_other bytes i (k / 8) (bit_or (slice_index bytes i) (1 * 2 ^ (id % 8) % 256)) 0 there) refl)
    (cases_eq (k / 8) i)

-- the test of a bit
pub test_bit : (bytes : List ℕ) (i id : ℕ) → i ≡ id / 8 → bit_and (slice_index bytes i / 2 ^ (id % 8)) 1 ≡ bit_of bytes id
unfolding bit_of
test_bit bytes i id at = rw at (shr_and_one (slice_index bytes (id / 8)) (id % 8))

-- bytes of zero have no bit set
pub none_set : (bytes : List ℕ) → ((k : ℕ) → k < length bytes → get_or bytes k 0 ≡ 0) → (k : ℕ) → bit_of bytes k ≡ 0
unfolding bit_of
none_set bytes zeros k =
    ⊎_elim
    (λ (low : k / 8 < length bytes). rw (zeros (k / 8) low) (bit_at-zero (k % 8)))
    (λ (past : length bytes ≤ k / 8). rw (get_or_past bytes (k / 8) 0 past) (bit_at-zero (k % 8)))
    (cases_lt (k / 8) (length bytes))

-- bytes of which no bit is set, among others
pub cleared_in : (s id : ℕ) (work bits rest : List ℕ) → s ≤ length work → id / 8 < length bits → bit_of bits id ≡ 0 → bit_of (drop s (take s work ++ (bits ++ rest))) id ≡ 0
unfolding bit_of
cleared_in s id work bits rest most low none = rw (drop_at (take s work) (bits ++ rest) s (length-take-le s work most), get_or_append_left bits rest 0 (id / 8) low) none
