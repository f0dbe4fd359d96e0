-- What a scrub step picks, and what it leaves.
use Rattle.std.specs.Prelude.{true, false, Bool, ◌≡◌, ◌⊎◌, ℕ, ◌+◌, ◌<◌, ◌≤◌, List, Some, None}
use Rattle.geometry.specs.declared.geometry.Geometry.{Geometry}
use Rattle.image_model.specs.Places.{IsImage, next_count}
use Rattle.image_model.specs.Tidy.{IsTidy, is_free_block, free_blocks, HasReserve}
use Rattle.image_model.specs.Collect.{age_of, chosen_block}
use Rattle.image_model.specs.Wear.{young, scrub_victim}
use Rattle.image_model.specs.Sound.{Keeps}
use Rattle.room_laws.specs.Recovery.{Recovers}
use Rattle.flash_view.specs.Steps.{Step}
use Rattle.block_gc.specs.Programs.{block_cost, cost_of}
use Rattle.block_gc.specs.RoomMade.{FreedUp}
use Rattle.block_gc.specs.Moved.{MovedBlock}
use Rattle.wear_scrub.specs.declared.scrubs.Scrub.{Scrub}
use Rattle.wear_scrub.specs.declared.scrubs.Scrub.TheVariants.{NoRoom, Rested, Moved}
use Rattle.wear_scrub.specs.Victims.{IsOldestOf}

-- a block that is moved is one of so many
abbrev pub IsInside : (blocks : ℕ) → Scrub → Type 0
IsInside blocks (NoRoom free) = Unit {0}
IsInside blocks Rested = Unit {0}
IsInside blocks (Moved block age) = block < blocks

-- Each block in use is less than so many counts older than the oldest free one.
abbrev pub IsLevel : Geometry → List ℕ → (limit : ℕ) → Type 0
IsLevel g image limit = (b : ℕ) → b < g.blocks → is_free_block g image b ≡ false → age_of g image b < young g image + limit

-- whether that is so
abbrev pub IfLevel : Geometry → List ℕ → (limit : ℕ) → Bool → Type 0
IfLevel g image limit true = IsLevel g image limit
IfLevel g image limit false = IsLevel g image limit → ⊥

-- the oldest of the blocks that may be moved, where it is so much older than each free one, or that there is none
abbrev pub IsVictim : Geometry → List ℕ → (limit block age : ℕ) → Type 0
IsVictim g image limit block age = IsOldestOf g image (young g image + limit) g.blocks (Some (record { block = block; age = age }))

abbrev pub HasNoVictim : Geometry → List ℕ → (limit : ℕ) → Type 0
HasNoVictim g image limit = IsOldestOf g image (young g image + limit) g.blocks None

-- No block is old enough, or one is and none that is may be moved, or it is that block, of that age: where three are free the victim of image_model.
abbrev pub IsPick : Geometry → List ℕ → (limit : ℕ) → Scrub → Type 0
IsPick g image limit (NoRoom free) = (free ≡ free_blocks g image) × (IsLevel g image limit → ⊥) × HasNoVictim g image limit
IsPick g image limit Rested = IsLevel g image limit × (HasReserve g image → scrub_victim g image limit ≡ None)
IsPick g image limit (Moved block age) = IsVictim g image limit block age × (3 ≤ free_blocks g image → scrub_victim g image limit ≡ Some block)

-- The block was cleaned, then others until two are free again. Cleaned it was free with the next erase count, and where erase counts don't wrap the
-- next one rose by one. The count of programs and erases rose by no more than these cleanings take.
pub record Moves (g : Geometry) (block before after : ℕ) (was now : List ℕ) : Type 0 where
  pub moved : MovedBlock g block true before after was now
  pub reserve : HasReserve g now
  pub next : 1 ≤ next_count g was → next_count g was + 1 < 0x8000 → next_count g moved.middle ≡ next_count g was + 1
  pub few : after ≤ before + (block_cost g was block + cost_of g moved.freed.cleanings.swept.through)

-- the block that is picked was moved, or none was and nothing was written
abbrev pub PickDone : Geometry → (limit before after : ℕ) → (was now : List ℕ) → Scrub → Type 0
PickDone g limit before after was now (NoRoom free) = IsPick g was limit (NoRoom free) × (now ≡ was) × (after ≤ before)
PickDone g limit before after was now Rested = IsPick g was limit Rested × (now ≡ was) × (after ≤ before)
PickDone g limit before after was now (Moved block age) = IsPick g was limit (Moved block age) × Moves g block before after was now

-- Blocks were cleaned until three were free, or none was chosen any more; two are free where they were. Then the block that is picked was moved, or
-- none was.
pub record StepMade (g : Geometry) (limit before after : ℕ) (was now : List ℕ) (scrub : Scrub) : Type 0 where
  pub met : Bool
  pub middle : List ℕ
  pub between : ℕ
  pub freed : FreedUp g 3 met before between was middle
  pub reserve : HasReserve g was → HasReserve g middle
  pub done : PickDone g limit between after middle now scrub

-- What a step with a limit has done, by the counts of programs and erases before and after: nothing where no block was old enough, and else that.
abbrev pub ScrubDone : Geometry → (limit before after : ℕ) → (was now : List ℕ) → Scrub → Type 0
ScrubDone g limit before after was now scrub =
    (scrub ≡ Rested) × IsLevel g was limit × (now ≡ was) × (after ≤ before) ⊎ (IsLevel g was limit → ⊥) × StepMade g limit before after was now scrub

-- Nothing is to move: no block is old enough, or none is worth cleaning and none that is old enough may be moved.
abbrev pub IsAtRest : Geometry → List ℕ → (limit : ℕ) → Type 0
IsAtRest g image limit = IsLevel g image limit ⊎ (chosen_block g image ≡ None) × HasNoVictim g image limit

-- A cut keeps the image, and it recovers where two blocks were free.
pub record ScrubCut (g : Geometry) (was image : List ℕ) : Type 0 where
  pub keeps : Keeps g was image
  pub mends : HasReserve g was → Recovers g image

-- ---- the steps, by the counts of programs and erases before and after: the block that is picked is moved, and all

abbrev pub moving_picked : (limit before after : ℕ) → Step Scrub
moving_picked limit before after = record {
  needs = λ g was. IsImage g was × IsTidy g was;
  cut = ScrubCut;
  done = λ g was now scrub. PickDone g limit before after was now scrub;
}

abbrev pub scrubbing : (limit before after : ℕ) → Step Scrub
scrubbing limit before after = record {
  needs = λ g was. IsImage g was × IsTidy g was;
  cut = ScrubCut;
  done = λ g was now scrub. ScrubDone g limit before after was now scrub;
}
