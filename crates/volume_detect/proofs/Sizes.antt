-- Powers of two, and how many bytes lookup pages take.
use Rattle.std.proofs.Common.{◌≡◌, ℕ, ◌*◌, ◌^◌, ◌<◌, ◌≤◌, Bool, true, ◌==◌, nat_le, refl, arith}
use Rattle.std.proofs.lemmas.Bool.{agree_below, agree_below_at, eqb-true, leb-true}
use Rattle.geometry.specs.Rules.{is_page, lookups_in}
use Rattle.volume_detect.specs.Spots.{word_class}

-- a test that passes below a number, computed
at_below : (test : ℕ → Bool) (n k : ℕ) → agree_below test (λ _. true) n ≡ true → k < n → test k ≡ true
at_below test n k all low = agree_below_at test (λ _. true) n k all low

pub page_is_page : (i : ℕ) → i < 6 → is_page (128 * 2 ^ i) ≡ true
page_is_page i low = at_below (λ i. is_page (128 * 2 ^ i)) 6 i refl low

pub page_most : (i : ℕ) → i < 6 → 128 * 2 ^ i ≤ 4096
page_most i low = leb-true _ _ (at_below (λ i. nat_le (128 * 2 ^ i) 4096) 6 i refl low)

pub page_least : (i : ℕ) → i < 6 → 128 ≤ 128 * 2 ^ i
page_least i low = leb-true _ _ (at_below (λ i. nat_le 128 (128 * 2 ^ i)) 6 i refl low)

pub power_least : (j : ℕ) → j < 7 → 1 ≤ 2 ^ j
power_least j low = leb-true _ _ (at_below (λ j. nat_le 1 (2 ^ j)) 7 j refl low)

pub power_most : (j : ℕ) → j < 7 → 2 ^ j ≤ 64
power_most j low = leb-true _ _ (at_below (λ j. nat_le (2 ^ j) 64) 7 j refl low)

pub class_few : (i j : ℕ) → i < 6 → j < 7 → word_class j i < 6
class_few i j low low' = omega arith

-- the lookup pages take the bytes of their class
class_at : (i : ℕ) → i < 6 → (j : ℕ) → j < 7 → (lookups_in (128 * 2 ^ i) (4096 * 2 ^ j) * (128 * 2 ^ i) == 128 * 2 ^ word_class j i) ≡ true
class_at i low j low' =
    at_below (λ j. lookups_in (128 * 2 ^ i) (4096 * 2 ^ j) * (128 * 2 ^ i) == 128 * 2 ^ word_class j i) 7 j
    (at_below (λ i. agree_below (λ j. lookups_in (128 * 2 ^ i) (4096 * 2 ^ j) * (128 * 2 ^ i) == 128 * 2 ^ word_class j i) (λ _. true) 7) 6 i refl low) low'

pub lookup_bytes : (i j : ℕ) → i < 6 → j < 7 → lookups_in (128 * 2 ^ i) (4096 * 2 ^ j) * (128 * 2 ^ i) ≡ 128 * 2 ^ word_class j i
lookup_bytes i j low low' = eqb-true _ _ (class_at i low j low')
