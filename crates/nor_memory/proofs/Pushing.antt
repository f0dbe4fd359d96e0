-- A list that grows by one element after the other.
use Rattle.std.proofs.Common.{◌≡◌, ℕ, ◌+◌, ◌<◌, List, [], ◌∷◌, ◌++◌, length, get_or, below_more, arith}
use Rattle.std.proofs.lemmas.Grind.{common_steps}

-- what holds of each element so far, and of one more
pub each_pushed : (f : ℕ → ℕ) (left : List ℕ) (n one : ℕ) → length left ≡ n → ((k : ℕ) → k < n → get_or left k 0 ≡ f k) → one ≡ f n → (k : ℕ) → k < n + 1 → get_or (left ++ one ∷ []) k 0 ≡ f k
each_pushed f left n one size each one_is = below_more (λ (k : ℕ). get_or (left ++ one ∷ []) k 0 ≡ f k) n (λ k below. let here = each k below in grind (arith, common_steps)) (grind (arith, common_steps))
