-- What is noted of each id in a walk over the pages: no header page of it was met, or one, or more.
use Rattle.std.specs.Prelude.{ℕ, zero, suc, ◌≡◌, ◌==◌, ◌<◌, ◌≤◌, List, length, Bool, false, Option, Some, None, if◌then◌else◌, slice_index, slice_set}
use Rattle.image_model.specs.Live.{Live}
use Rattle.doubled_ids.specs.Doubled.{heads_to, doubled_to}

-- a number that an id may have
abbrev pub IsId : ℕ → Type 0
IsId id = (1 ≤ id) × (id ≤ 0x7FFF)

-- the note of so many header pages
abbrev pub note_of : ℕ → ℕ
note_of zero = 0
note_of (suc zero) = 1
note_of (suc (suc heads)) = 2

-- the note of one header page more
abbrev pub note_after : ℕ → ℕ
note_after met = if met == 0 then 1 else 2

-- a header page is the second one of its id
abbrev pub is_second : List ℕ → Option ℕ → Bool
is_second notes None = false
is_second notes (Some id) = slice_index notes id == 1

-- it is noted
abbrev pub with_one : List ℕ → Option ℕ → List ℕ
with_one notes None = notes
with_one notes (Some id) = slice_set notes id (note_after (slice_index notes id))

-- The header pages below p are noted.
pub record AreNoted (live : Live) (p : ℕ) (notes : List ℕ) : Type 0 where
  pub len : length notes ≡ 0x8000
  pub each : (id : ℕ) → id < 0x8000 → slice_index notes id ≡ note_of (heads_to live p id)

-- So many ids are doubled among the pages below p.
pub record AreCounted (live : Live) (p count : ℕ) : Type 0 where
  pub few : count ≤ p
  pub count_is : count ≡ length (doubled_to live p 0x7FFF)
