-- The ages of all blocks, and what a scrub step does by them.
use Rattle.std.specs.Prelude.{◌≡◌, ℕ, ◌+◌, ◌-◌, ◌%◌, ◌<◌, ◌≤◌, List, Bool, true, false, nat_lt, nat_le, ◌==◌, max, Option, Some, None, if◌then◌else◌}
use Rattle.geometry.specs.declared.geometry.Geometry.{Geometry}
use Rattle.flash_view.specs.declared.counts.BlockCounts.{BlockCounts}
use Rattle.image_model.specs.Tidy.{is_free_block, free_blocks}
use Rattle.image_model.specs.Collect.{age_of}
use Rattle.image_model.specs.Wear.{young}
use Rattle.wear_scrub.specs.declared.ages.Aged.{Aged}
use Rattle.wear_scrub.specs.declared.ages.Ages.{Ages}
use Rattle.wear_scrub.specs.declared.scrubs.Scrub.{Scrub}
use Rattle.wear_scrub.specs.declared.scrubs.Scrub.TheVariants.{NoRoom, Rested, Moved}

-- the age of a block by its erase count and the next one
abbrev pub age_by : (erases next : ℕ) → ℕ
age_by erases next = (next + 0x8000 - erases) % 0x8000

-- the oldest block so far or another one, whichever is older, the earlier among equals
abbrev pub older_of : Option Aged → Aged → Option Aged
older_of None other = Some other
older_of (Some first) other = if nat_le other.age first.age then Some first else Some other

-- what was found so far, and a block more of that age that is free or in use
abbrev pub with_one : (free : Bool) → Ages → (age block : ℕ) → Ages
with_one free found age block =
    if free then record { free = found.free + 1; young = max age found.young; oldest = found.oldest }
    else record { free = found.free; young = found.young; oldest = older_of found.oldest (record { block = block; age = age }) }

-- the same by the counts of the block
abbrev pub ages_by : Ages → BlockCounts → (entries next block : ℕ) → Ages
ages_by found c entries next block = with_one (c.free == entries) found (age_by c.erases next) block

-- Of the blocks below n this one is in use and the oldest, of that age, and each one before it in use is younger.
pub record IsOldest (g : Geometry) (image : List ℕ) (n : ℕ) (aged : Aged) : Type 0 where
  pub below : aged.block < n
  pub used : is_free_block g image aged.block ≡ false
  pub age : aged.age ≡ age_of g image aged.block
  pub most : (b : ℕ) → b < n → is_free_block g image b ≡ false → age_of g image b ≤ aged.age
  pub first : (b : ℕ) → b < aged.block → is_free_block g image b ≡ false → age_of g image b < aged.age

-- that block, or none of those below n is in use
abbrev pub IsFirst : Geometry → List ℕ → (n : ℕ) → Option Aged → Type 0
IsFirst g image n None = (b : ℕ) → b < n → is_free_block g image b ≡ true
IsFirst g image n (Some aged) = IsOldest g image n aged

-- The free blocks and the greatest age of one are those of the image, and the oldest block is the first of the oldest in use.
pub record AreAges (g : Geometry) (image : List ℕ) (found : Ages) : Type 0 where
  pub free : found.free ≡ free_blocks g image
  pub young_is : found.young ≡ young g image
  pub oldest : IsFirst g image g.blocks found.oldest

-- the block is below a number
abbrev pub IsBelow : ℕ → Option Aged → Type 0
IsBelow n None = Unit {0}
IsBelow n (Some aged) = aged.block < n

-- no block in use is so much older than each free one, by the oldest
abbrev pub older_by : (least : ℕ) → Option Aged → Bool
older_by least None = true
older_by least (Some aged) = nat_lt aged.age least

abbrev pub level_by : Ages → (limit : ℕ) → Bool
level_by found limit = older_by (found.young + limit) found.oldest

-- the oldest block that may be moved is, or none is
abbrev pub moved_or_none : (free : ℕ) → Option Aged → Scrub
moved_or_none free None = NoRoom free
moved_or_none free (Some aged) = Moved aged.block aged.age

-- what a scrub step with a limit does, by the ages of all blocks and the oldest one that may be moved
abbrev pub pick_of : Ages → (limit : ℕ) → Option Aged → Scrub
pick_of found limit oldest = if level_by found limit then Rested else moved_or_none found.free oldest
