-- How the words of a line stand in it.
use Rattle.std.proofs.Common.{◌≡◌, ℕ, zero, suc, ◌+◌, ◌<◌, ◌≤◌, List, [], ◌∷◌, length, get_or, take, drop, refl, arith, true, false, cond, eqb, Option, Some, None, Bor}
use Rattle.std.proofs.lemmas.Grind.{common_steps}
use Rattle.call_script.specs.Lines.{words, onto}
use Rattle.call_script.specs.Split.{IsFirst}

-- a line whose first space is at an index
pub words_at : (xs : List ℕ) (i : ℕ) → i < length xs → get_or xs i 0 ≡ 32 → ((k : ℕ) → k < i → get_or xs k 0 ≡ 32 → ⊥) → words xs ≡ take i xs ∷ words (drop (suc i) xs)
unfolding words
words_at [] i h here none = absurd (omega arith)
words_at (x ∷ xs) zero h here none = let t : eqb x 32 ≡ true = grind (arith, common_steps) in rw t refl
words_at (x ∷ xs) (suc i) h here none =
    let first : x ≡ 32 → ⊥ = none 0 (omega arith) in
    let t : eqb x 32 ≡ false = grind (arith, common_steps) in
    rw t (rw (words_at xs i (omega arith) here (λ k b e. none (suc k) (omega arith) e)) refl)

-- a line without a space
pub words_alone : (xs : List ℕ) → ((k : ℕ) → k < length xs → get_or xs k 0 ≡ 32 → ⊥) → words xs ≡ xs ∷ []
unfolding words
words_alone [] none = refl
words_alone (x ∷ xs) none =
    let first : x ≡ 32 → ⊥ = none 0 (omega arith) in
    let t : eqb x 32 ≡ false = grind (arith, common_steps) in
    rw t (rw (words_alone xs (λ k b e. none (suc k) (omega arith) e)) refl)

-- the bytes of several texts
abbrev pub total : List (List ℕ) → ℕ
total [] = 0
total (w ∷ ws) = length w + total ws

total-onto : (b : ℕ) (ws : List (List ℕ)) → total (onto b ws) ≤ total ws + 1
total-onto b [] = omega arith
total-onto b (w ∷ ws) = omega arith

-- the words of a line have at most its bytes
pub total-words : (xs : List ℕ) → total (words xs) ≤ length xs
unfolding words
total-words [] = omega arith
total-words (x ∷ xs) = elim (eqb x 32) as (λ v. total (cond v ([] ∷ words xs) (onto x (words xs))) ≤ length (x ∷ xs)) [ true ↦ omega (arith, total-words xs) | false ↦ omega (arith, total-words xs, total-onto x (words xs)) ]

-- there is at least one word
pub some-words : (xs : List ℕ) → 0 < length (words xs)
unfolding words
some-words [] = omega arith
some-words (x ∷ xs) = elim (eqb x 32) as (λ v. 0 < length (cond v ([] ∷ words xs) (onto x (words xs)))) [ true ↦ omega arith | false ↦ some-onto x (words xs) ]
  where
    some-onto : (b : ℕ) (ws : List (List ℕ)) → 0 < length (onto b ws)
    some-onto b [] = omega arith
    some-onto b (w ∷ ws) = omega arith

-- a first word with a line behind it
pub behind : (word : List ℕ) (rest : Option (Bor (List ℕ))) (line : Bor (List ℕ)) (all : List (List ℕ)) → IsFirst word rest all → rest ≡ Some line → all ≡ word ∷ words line.now
behind word None line all h e = cc
behind word (Some x) line all h e = let same : x ≡ line = cc in rw (← same) h
