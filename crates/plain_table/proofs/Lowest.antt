-- The search for a closed descriptor.
use Rattle.std.proofs.Common.{◌≡◌, ℕ, ◌+◌, ◌<◌, ◌≤◌, List, map, length, get_or, drop, refl, Option, Some, None}
use Rattle.std.proofs.lemmas.List.{drop_more, drop_all}
use Rattle.table_model.specs.Descriptors.{lowest_from}
use Rattle.plain_table.specs.declared.slots.PlainOpen.{PlainOpen}
use Rattle.plain_table.specs.Seen.{held}

-- the next one is closed
pub closed_here : (n : ℕ) (xs : List (Option PlainOpen)) (i : ℕ) (d : Option PlainOpen) → i < length xs → get_or xs i d ≡ None → lowest_from n (map held (drop i xs)) ≡ Some n
closed_here n xs i d h none = rw (drop_more xs i d h, none) refl

-- the next one is open
pub closed_on : (n : ℕ) (xs : List (Option PlainOpen)) (i : ℕ) (d : Option PlainOpen) (o : PlainOpen) → i < length xs → get_or xs i d ≡ Some o → lowest_from n (map held (drop i xs)) ≡ lowest_from (n + 1) (map held (drop (i + 1) xs))
closed_on n xs i d o h some = rw (drop_more xs i d h, some) refl

-- none is left
pub closed_end : (n : ℕ) (xs : List (Option PlainOpen)) (i : ℕ) → length xs ≤ i → lowest_from n (map held (drop i xs)) ≡ None
closed_end n xs i h = rw (drop_all i xs h) refl
