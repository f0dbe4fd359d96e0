-- Walks over files from the first one on.
use Rattle.std.proofs.Common.{◌≡◌, ℕ, ◌+◌, ◌<◌, ◌≤◌, List, map, length, get_or, drop, refl, true, false, Bool, Some, None}
use Rattle.std.specs.Prelude.{find}
use Rattle.std.proofs.lemmas.List.{drop_more, drop_all}

-- the next one passes
pub find_here : {X Y : Type 0} (v : X → Y) (test : Y → Bool) (xs : List X) (i : ℕ) (d : X) → i < length xs → test (v (get_or xs i d)) ≡ true →
    find test (map v (drop i xs)) ≡ Some (v (get_or xs i d))
find_here v test xs i d h passes = rw (drop_more xs i d h, passes) refl

-- the next one fails
pub find_on : {X Y : Type 0} (v : X → Y) (test : Y → Bool) (xs : List X) (i : ℕ) (d : X) → i < length xs → test (v (get_or xs i d)) ≡ false →
    find test (map v (drop i xs)) ≡ find test (map v (drop (i + 1) xs))
find_on v test xs i d h fails = rw (drop_more xs i d h, fails) refl

-- none is left
pub find_end : {X Y : Type 0} (v : X → Y) (test : Y → Bool) (xs : List X) (i : ℕ) → length xs ≤ i → find test (map v (drop i xs)) ≡ None
find_end v test xs i h = rw (drop_all i xs h) refl
