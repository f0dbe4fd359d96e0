-- What an interrupted program leaves of a byte, bit by bit.
use Rattle.std.proofs.Common.{◌≡◌, ℕ, ◌+◌, ◌<◌, List, length, slice_index, ap, arith}
use Rattle.std.specs.Prelude.{bit_and}
use Rattle.std.specs.Int.{bit_at}
use Rattle.std.proofs.lemmas.Nat.Bits.{bit_at_and, bit_at-lt}
use Rattle.nor_core.specs.Flash.{IsBetween, HalfProgrammed}

-- a bit that is set in both is set, and no bit is set that was not
pub record TornByte (old asked new : ℕ) : Type 0 where
  pub kept : (k : ℕ) → bit_at old k ≡ 1 → bit_at asked k ≡ 1 → bit_at new k ≡ 1
  pub no_more : (k : ℕ) → bit_at new k ≡ 1 → bit_at old k ≡ 1

pub between-torn : (old asked new : ℕ) → IsBetween old asked new → TornByte old asked new
between-torn old asked new h = record {
  kept = λ k x y.
      let both = bit_at_and old asked k in
      let three = bit_at_and (bit_and old asked) new k in
      let same : bit_at (bit_and (bit_and old asked) new) k ≡ bit_at (bit_and old asked) k = ap (λ (n : ℕ). bit_at n k) h.kept in
      omega (arith, both, three, same, x, y, bit_at-lt new k);
  no_more = λ k x.
      let both = bit_at_and new old k in
      let same : bit_at (bit_and new old) k ≡ bit_at new k = ap (λ (n : ℕ). bit_at n k) h.cleared in
      omega (arith, both, same, x, bit_at-lt old k);
}

pub torn_byte : (at : ℕ) (asked old new : List ℕ) → HalfProgrammed at asked old new → (i : ℕ) → i < length asked → TornByte (slice_index old (at + i)) (slice_index asked i) (slice_index new (at + i))
torn_byte at asked old new h i small = between-torn _ _ _ (h.inside i small)
