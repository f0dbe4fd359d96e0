-- A number that each cleaning lowers.
use Rattle.std.specs.Prelude.{◌≡◌, ℕ, ◌+◌, ◌*◌, ◌<◌, ◌⊎◌, List, length}
use Rattle.room_laws.specs.Counts.{Counts, for_index, for_data}
use Rattle.room_laws.specs.Volume.{blocks_of, deleted_of, Worth}
use Rattle.room_laws.specs.Cleaning.{Cleaned}

-- Of four numbers of a volume the first that changes falls.
abbrev pub Falls : List Counts → List Counts → Type 0
Falls a b = (deleted_of for_data b < deleted_of for_data a) ⊎ ((deleted_of for_data b ≡ deleted_of for_data a) ×
    ((blocks_of for_data b < blocks_of for_data a) ⊎ ((blocks_of for_data b ≡ blocks_of for_data a) ×
    ((deleted_of for_index b < deleted_of for_index a) ⊎ ((deleted_of for_index b ≡ deleted_of for_index a) ×
    (blocks_of for_index b < blocks_of for_index a))))))

-- Cleaning a block that was worth it lets the first of these that changes fall.
abbrev pub CleaningFalls : Type 0
CleaningFalls = (e : ℕ) (a b : List Counts) (c : Counts) → Cleaned e a c b → Worth a c → Falls a b

-- the number of base m with these four digits
abbrev pub digits : ℕ → ℕ → ℕ → ℕ → ℕ → ℕ
digits m x y z w = ((x * m + y) * m + z) * m + w

-- those four as the digits of one number
unfoldable pub measure : ℕ → List Counts → ℕ
measure e v = digits (length v * e + 1) (deleted_of for_data v) (blocks_of for_data v) (deleted_of for_index v) (blocks_of for_index v)

-- Cleaning a block that was worth it lowers that number.
abbrev pub CleaningLowers : Type 0
CleaningLowers = (e : ℕ) (a b : List Counts) (c : Counts) → Cleaned e a c b → Worth a c → measure e b < measure e a
