-- Fronts of lists.
use Rattle.std.proofs.Common.{◌≡◌, ℕ, ◌<◌, List, [], ◌∷◌, ◌++◌, length, refl, arith}

-- two fronts of one list, as long as each other
pub same_front : (xs ys a b : List ℕ) → xs ++ a ≡ ys ++ b → length xs ≡ length ys → xs ≡ ys
same_front [] [] a b e l = refl
same_front [] (y ∷ ys) a b e l = absurd (omega (arith, l))
same_front (x ∷ xs) [] a b e l = absurd (omega (arith, l))
same_front (x ∷ xs) (y ∷ ys) a b e l =
    let head : x ≡ y = cc in
    let tail : xs ++ a ≡ ys ++ b = cc in
    let rest : xs ≡ ys = same_front xs ys a b tail (omega (arith, l)) in
    cc

-- these bytes begin with that one
pub record Heads (b : ℕ) (xs : List ℕ) : Type 0 where
  pub rest : List ℕ
  pub is : xs ≡ b ∷ rest

-- so does what stands behind a front of them of at least one byte
pub front_heads : (b : ℕ) (part rest xs : List ℕ) → Heads b xs → xs ≡ part ++ rest → 0 < length part → Heads b part
front_heads b [] rest xs h e some = absurd (omega (arith, some))
front_heads b (x ∷ part) rest xs h e some = record { rest = part; is = (let all : b ∷ h.rest ≡ x ∷ (part ++ rest) = cc in let head : x ≡ b = cc in cc) }

-- what is longer begins so too
pub more_heads : (b : ℕ) (xs more : List ℕ) → Heads b xs → Heads b (xs ++ more)
more_heads b xs more h = record { rest = h.rest ++ more; is = cc }

-- no list begins with two bytes
pub heads_one : (b c : ℕ) (xs : List ℕ) → Heads b xs → Heads c xs → b ≡ c
heads_one b c xs h k = let all : b ∷ h.rest ≡ c ∷ k.rest = cc in cc
