-- The oldest block of those in use that may be moved.
use Rattle.std.specs.Prelude.{◌≡◌, ℕ, ◌<◌, ◌≤◌, ◌⊎◌, List, Bool, true, false, not, nat_lt, nat_le, ◌==◌, ◌&&◌, Option, Some, None}
use Rattle.geometry.specs.declared.geometry.Geometry.{Geometry}
use Rattle.flash_view.specs.declared.counts.BlockCounts.{BlockCounts}
use Rattle.image_model.specs.Tidy.{is_free_block}
use Rattle.image_model.specs.Collect.{age_of}
use Rattle.block_gc.specs.Spares.{MayMove}
use Rattle.wear_scrub.specs.declared.ages.Aged.{Aged}

-- an age is above that of the oldest so far
abbrev pub is_above : Option Aged → (age : ℕ) → Bool
is_above None age = true
is_above (Some first) age = nat_lt first.age age

-- by its counts a block is in use, at least so old, and older than the oldest so far
abbrev pub rival_by : BlockCounts → (entries : ℕ) → Option Aged → (age least : ℕ) → Bool
rival_by c entries oldest age least = not (c.free == entries) && nat_le least age && is_above oldest age

-- The block is in use, at least so old, older than the oldest so far, and may be moved.
pub record Wins (g : Geometry) (image : List ℕ) (least block : ℕ) (oldest : Option Aged) : Type 0 where
  pub used : is_free_block g image block ≡ false
  pub old : least ≤ age_of g image block
  pub above : is_above oldest (age_of g image block) ≡ true
  pub may : MayMove g image block

-- the block is the oldest then, where that is so, and else the oldest so far stays
abbrev pub TurnsTo : Geometry → List ℕ → (least block : ℕ) → (oldest found : Option Aged) → Type 0
TurnsTo g image least block oldest found =
    Wins g image least block oldest × (found ≡ Some (record { block = block; age = age_of g image block })) ⊎ (Wins g image least block oldest → ⊥) × (found ≡ oldest)

-- Of the blocks below n this one is in use, at least so old, and may be moved. It has that age, and no block in use that may be moved is older,
-- and none before it is as old.
pub record IsOldestMay (g : Geometry) (image : List ℕ) (least n : ℕ) (aged : Aged) : Type 0 where
  pub below : aged.block < n
  pub used : is_free_block g image aged.block ≡ false
  pub age : aged.age ≡ age_of g image aged.block
  pub old : least ≤ aged.age
  pub may : MayMove g image aged.block
  pub most : (b : ℕ) → b < n → is_free_block g image b ≡ false → MayMove g image b → age_of g image b ≤ aged.age
  pub first : (b : ℕ) → b < aged.block → is_free_block g image b ≡ false → MayMove g image b → age_of g image b < aged.age

-- that block, or of those below n none in use that is so old may be moved
abbrev pub IsOldestOf : Geometry → List ℕ → (least n : ℕ) → Option Aged → Type 0
IsOldestOf g image least n None = (b : ℕ) → b < n → is_free_block g image b ≡ false → least ≤ age_of g image b → MayMove g image b → ⊥
IsOldestOf g image least n (Some aged) = IsOldestMay g image least n aged
