-- Counts of the blocks from a loop's counter on.
use Rattle.std.proofs.Common.{◌≡◌, ℕ, suc, ◌+◌, ◌-◌, ◌<◌, ◌∷◌, length, refl, ◌∙◌, arith, Bool, true, false}
use Rattle.std.specs.Prelude.{filter}
use Rattle.std.specs.List.{range_with_len}

count_step : (test : ℕ → Bool) (p e : ℕ) → p < e → length (filter test (range_with_len p (e - p))) ≡ length (filter test (p ∷ range_with_len (p + 1) (e - (p + 1))))
count_step test p e h = let n : e - p ≡ suc (e - (p + 1)) = omega arith in rw n refl

-- the first block counts
pub count_here : (test : ℕ → Bool) (p e n all : ℕ) → p < e → n + length (filter test (range_with_len p (e - p))) ≡ all → test p ≡ true →
    (n + 1) + length (filter test (range_with_len (p + 1) (e - (p + 1)))) ≡ all
count_here test p e n all h whole passes =
    let step : length (filter test (range_with_len p (e - p))) ≡ suc (length (filter test (range_with_len (p + 1) (e - (p + 1))))) = count_step test p e h ∙ rw passes refl in
    omega (arith, step, whole)

-- it doesn't
pub count_later : (test : ℕ → Bool) (p e n all : ℕ) → p < e → n + length (filter test (range_with_len p (e - p))) ≡ all → test p ≡ false →
    n + length (filter test (range_with_len (p + 1) (e - (p + 1)))) ≡ all
count_later test p e n all h whole fails =
    let step : length (filter test (range_with_len p (e - p))) ≡ length (filter test (range_with_len (p + 1) (e - (p + 1)))) = count_step test p e h ∙ rw fails refl in
    omega (arith, step, whole)
