-- The parts of a write from a loop's counter on.
use Rattle.std.proofs.Common.{◌≡◌, ℕ, suc, ◌+◌, ◌-◌, ◌<◌, List, [], ◌∷◌, ◌++◌, map, sym, subst, arith, append_assoc, Bool, true, false}
use Rattle.std.specs.Prelude.{filter}
use Rattle.std.specs.List.{range_with_len}
use Rattle.std.proofs.lemmas.List.{map-append}

-- the next number passes, and its table was made
pub part_made : {X Y : Type 0} (seen : X → Y) (test : ℕ → Bool) (table : ℕ → Y) (steps later : List X) (t : X) (p i n : ℕ) (total : List Y) → i < n → test (p + i) ≡ true → later ≡ steps ++ t ∷ [] → seen t ≡ table (p + i)
    → map seen steps ++ map table (filter test (range_with_len (p + i) (n - i))) ≡ total → map seen later ++ map table (filter test (range_with_len (p + (i + 1)) (n - (i + 1)))) ≡ total
part_made seen test table steps later t p i n total less passes more is all =
    let m : n - i ≡ suc (n - (i + 1)) = omega arith in
    let next : p + i + 1 ≡ p + (i + 1) = omega arith in
    let was : map seen steps ++ (table (p + i) ∷ map table (filter test (range_with_len (p + i + 1) (n - (i + 1))))) ≡ total = rw (m, passes) at all in
    rw (more, map-append, append_assoc) (subst (λ (k : ℕ). map seen steps ++ (seen t ∷ map table (filter test (range_with_len k (n - (i + 1))))) ≡ total) next (subst (λ y. map seen steps ++ (y ∷ map table (filter test (range_with_len (p + i + 1) (n - (i + 1))))) ≡ total) (sym is) was))

-- it doesn't
pub part_none : {X Y : Type 0} (seen : X → Y) (test : ℕ → Bool) (table : ℕ → Y) (steps later : List X) (p i n : ℕ) (total : List Y) → i < n → test (p + i) ≡ false → later ≡ steps
    → map seen steps ++ map table (filter test (range_with_len (p + i) (n - i))) ≡ total → map seen later ++ map table (filter test (range_with_len (p + (i + 1)) (n - (i + 1)))) ≡ total
part_none seen test table steps later p i n total less fails same all =
    let m : n - i ≡ suc (n - (i + 1)) = omega arith in
    let next : p + i + 1 ≡ p + (i + 1) = omega arith in
    let was : map seen steps ++ map table (filter test (range_with_len (p + i + 1) (n - (i + 1)))) ≡ total = rw (m, fails) at all in
    rw same (subst (λ (k : ℕ). map seen steps ++ map table (filter test (range_with_len k (n - (i + 1)))) ≡ total) next was)
