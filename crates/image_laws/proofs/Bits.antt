-- A program of one bit, cut off, is done or not done.
use Rattle.std.proofs.Common.{◌≡◌, ℕ, ◌<◌, ◌⊎◌, ⊎_elim, inl, inr, arith, ◌∙◌, sym, List, slice_index, ◌≤◌, ◌∷◌, [], add-zero}
use Rattle.std.specs.Int.{bit_at}
use Rattle.std.proofs.lemmas.Nat.Bits.{bit_at-lt, same_from_bits}
use Rattle.std.proofs.lemmas.Bool.{cases_eq, cases_lt}
use Rattle.std.proofs.lemmas.List.{ext_get_or}
use Rattle.nor_core.specs.Flash.{HalfProgrammed}
use Rattle.image_laws.proofs.BetweenTorn.{TornByte, torn_byte}
use Rattle.image_laws.specs.Programs.{ClearsBit}
use Rattle.std.specs.Prelude.{bit_and}
use Rattle.std.specs.Int.Bits.{and_comm}
use Rattle.std.proofs.lemmas.Nat.{and_mask}
use Rattle.std.proofs.Math.Nat.{mod-eq_of_lt}

pub bit_cases : (n k : ℕ) → (bit_at n k ≡ 1) ⊎ (bit_at n k ≡ 0)
bit_cases n k = let small : bit_at n k < 2 = bit_at-lt n k in ⊎_elim (λ (x : bit_at n k ≡ 1). inl x) (λ (x : bit_at n k ≡ 1 → ⊥). inr (omega (arith, x, small))) (cases_eq (bit_at n k) 1)

-- a bit that is asked to stay
bit_stays : (old asked new k : ℕ) → TornByte old asked new → bit_at asked k ≡ bit_at old k → bit_at new k ≡ bit_at old k
bit_stays old asked new k h e =
    ⊎_elim
    (λ (set : bit_at old k ≡ 1). h.kept k set (e ∙ set) ∙ sym set)
    (λ (clear : bit_at old k ≡ 0). ⊎_elim
    (λ (x : bit_at new k ≡ 1). x ∙ sym (h.no_more k x))
    (λ (x : bit_at new k ≡ 0). x ∙ sym clear)
    (bit_cases new k))
    (bit_cases old k)

pub one_bit : (k old asked new : ℕ) → ClearsBit k old asked → TornByte old asked new → (new ≡ old) ⊎ (new ≡ asked)
one_bit k old asked new c h =
    ⊎_elim
    (λ (set : bit_at new k ≡ 1). inl (same_from_bits new old (λ j. ⊎_elim
    (λ (here : j ≡ k). rw here (set ∙ sym c.set))
    (λ (there : j ≡ k → ⊥). bit_stays old asked new j h (c.others j there))
    (cases_eq j k))))
    (λ (clear : bit_at new k ≡ 0). inr (same_from_bits new asked (λ j. ⊎_elim
    (λ (here : j ≡ k). rw here (clear ∙ sym c.cleared))
    (λ (there : j ≡ k → ⊥). bit_stays old asked new j h (c.others j there) ∙ sym (c.others j there))
    (cases_eq j k))))
    (bit_cases new k)

-- the whole image is as it was, or has the byte that was asked
pub one_bit_image : (k at asked : ℕ) (old new : List ℕ) → ClearsBit k (slice_index old at) asked → HalfProgrammed at (asked ∷ []) old new →
    (new ≡ old) ⊎ (slice_index new at ≡ asked)
one_bit_image k at asked old new c h =
    ⊎_elim
    (λ (same : slice_index new at ≡ slice_index old at). inl (ext_get_or 0 new old h.outside.size (λ i small.
    ⊎_elim
    (λ (x : i < at). h.outside.before i x)
    (λ (x : at ≤ i). ⊎_elim
    (λ (here : i ≡ at). rw here same)
    (λ (there : i ≡ at → ⊥). h.outside.after i (omega (arith, there)))
    (cases_eq i at))
    (cases_lt i at))))
    (λ (done : slice_index new at ≡ asked). inr done)
    (one_bit k (slice_index old at) asked (slice_index new at) c (rw add-zero at (torn_byte at (asked ∷ []) old new h 0 (omega arith))))

-- an erased byte takes every byte
pub and_comm_255 : (x : ℕ) → x < 256 → bit_and 255 x ≡ x
and_comm_255 x small = and_comm 255 x ∙ and_mask x 8 ∙ mod-eq_of_lt small
