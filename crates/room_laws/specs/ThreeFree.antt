-- Cleanings that begin with three free blocks, whatever block is cleaned.
use Rattle.std.specs.Prelude.{◌≡◌, ℕ, ◌≤◌, ◌⊎◌, List, ◌∷◌, length}
use Rattle.room_laws.specs.Counts.{Counts, unused}
use Rattle.room_laws.specs.Volume.{IsVolume, blocks_of}
use Rattle.room_laws.specs.Cleaning.{Cleaned}
use Rattle.room_laws.specs.Cut.{CutIndex, CutData}
use Rattle.room_laws.specs.Mending.{Mending}

-- A cut leaves a volume that cleanings mend.
abbrev pub ThreeCutMends : Type 0
ThreeCutMends = (e : ℕ) (c : Counts) (r : List Counts) (d : Counts) (s : List Counts) → IsVolume e (c ∷ r) → IsVolume e (d ∷ s) → length s ≡ length r →
    3 ≤ blocks_of unused r →
    CutIndex e c r d s ⊎ CutData e c r d s → Mending e (d ∷ s)

-- Done, two blocks are free.
abbrev pub ThreeLeaveTwo : Type 0
ThreeLeaveTwo = (e : ℕ) (a b : List Counts) (c : Counts) → Cleaned e a c b → 3 ≤ blocks_of unused a → 2 ≤ blocks_of unused b
