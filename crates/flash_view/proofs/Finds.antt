-- Finds over the pages from a loop's counter on.
use Rattle.std.proofs.Common.{◌≡◌, ℕ, suc, ◌+◌, ◌-◌, ◌<◌, ◌∷◌, refl, sym, ◌∙◌, ap, arith, Option, Some, None, Bool, true, false}
use Rattle.std.specs.Prelude.{find, is_some, option_and_then}
use Rattle.std.specs.List.{range_with_len}

pub range_step : (p e : ℕ) → p < e → range_with_len p (e - p) ≡ p ∷ range_with_len (p + 1) (e - (p + 1))
range_step p e h = let n : e - p ≡ suc (e - (p + 1)) = omega arith in rw n refl

-- the first page passes
pub find_here : (test : ℕ → Bool) (p e : ℕ) (found : Option ℕ) → p < e → find test (range_with_len p (e - p)) ≡ found → test p ≡ true → Some p ≡ found
find_here test p e found h all passes = sym (ap (find test) (range_step p e h) ∙ rw passes refl) ∙ all

-- it doesn't
pub find_later : (test : ℕ → Bool) (p e : ℕ) (found : Option ℕ) → p < e → find test (range_with_len p (e - p)) ≡ found → test p ≡ false → find test (range_with_len (p + 1) (e - (p + 1))) ≡ found
find_later test p e found h all fails = sym (ap (find test) (range_step p e h) ∙ rw fails refl) ∙ all

-- the same for what the first page that has something has
pub first_here : (at : ℕ → Option ℕ) (p e id : ℕ) (found : Option ℕ) → p < e → option_and_then at (find (λ q. is_some (at q)) (range_with_len p (e - p))) ≡ found → at p ≡ Some id → Some id ≡ found
first_here at p e id found h all has =
    let passes : is_some (at p) ≡ true = rw has refl in
    sym (ap (λ xs. option_and_then at (find (λ q. is_some (at q)) xs)) (range_step p e h) ∙ rw passes has) ∙ all

pub first_later : (at : ℕ → Option ℕ) (p e : ℕ) (found : Option ℕ) → p < e → option_and_then at (find (λ q. is_some (at q)) (range_with_len p (e - p))) ≡ found → at p ≡ None →
    option_and_then at (find (λ q. is_some (at q)) (range_with_len (p + 1) (e - (p + 1)))) ≡ found
first_later at p e found h all none =
    let fails : is_some (at p) ≡ false = rw none refl in
    sym (ap (λ xs. option_and_then at (find (λ q. is_some (at q)) xs)) (range_step p e h) ∙ rw fails refl) ∙ all
