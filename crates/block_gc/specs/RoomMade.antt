-- What cleaning block after block leaves, and where it stops.
use Rattle.std.specs.Prelude.{◌≡◌, ℕ, ◌+◌, ◌<◌, ◌≤◌, ◌⊎◌, List, [], ◌∷◌, length, Option, Bool, true, false, Some, None, Result, Ok, Err}
use Rattle.geometry.specs.declared.geometry.Geometry.{Geometry}
use Rattle.geometry.specs.Numbers.{ceil, entries}
use Rattle.table_model.specs.Room.{index_count, data_count}
use Rattle.image_model.specs.Places.{IsImage}
use Rattle.image_model.specs.Tables.{table_of}
use Rattle.image_model.specs.Tidy.{IsTidy, free_blocks, HasReserve}
use Rattle.image_model.specs.Collect.{is_worth, chosen_block, Swept, are_had, is_stuck}
use Rattle.image_model.specs.Sound.{Keeps}
use Rattle.trim_laws.specs.Wear.{IsRenewed}
use Rattle.renew_laws.specs.Tails.{KeepsTails}
use Rattle.flash_view.specs.Steps.{is_apart, Step as Stage}
use Rattle.room_laws.specs.Stopping.{gc_measure, CanClean, IsPacked}
use Rattle.room_laws.specs.Mends.{CanMend}
use Rattle.room_laws.specs.Recovery.{Recovers}
use Rattle.flash_view.specs.declared.kinds.StepErr.TheVariants.{DeviceFault}
use Rattle.block_gc.specs.Programs.{cost_of}
use Rattle.block_gc.specs.Most.{most_cleanings}
use Rattle.block_gc.specs.declared.room.Goal.{Goal}
use Rattle.block_gc.specs.declared.room.Goal.TheVariants.{Pages, Packed, Free}
use Rattle.block_gc.specs.declared.room.RoomErr.{RoomErr}
use Rattle.block_gc.specs.declared.room.RoomErr.TheVariants.{Step, Tight}

-- a fault of the device, or want of room
abbrev pub IsFaultOrTight : RoomErr → Type 0
IsFaultOrTight why = (why ≡ Step DeviceFault) ⊎ (why ≡ Tight)

-- P, unless a cleaning failed: where room was made, and where there was none to be made
abbrev pub UnlessFailed : Result (Unit {0}) RoomErr → Type 0 → Type 0
UnlessFailed (Ok x) P = P
UnlessFailed (Err Tight) P = P
UnlessFailed (Err (Step why)) P = Unit {0}

-- where a page is damaged, what was wanted there and what was found differ
abbrev pub is_apart_in : RoomErr → Type 0
is_apart_in (Step why) = is_apart why
is_apart_in Tight = Unit {0}

-- So many pages of each kind are had, and two blocks are free.
pub record IsReady (g : Geometry) (image : List ℕ) (index pages : ℕ) : Type 0 where
  pub had : are_had g image index pages ≡ true
  pub reserve : HasReserve g image

-- whether that is so
abbrev pub IfReady : Geometry → List ℕ → (index pages : ℕ) → Bool → Type 0
IfReady g image index pages true = IsReady g image index pages
IfReady g image index pages false = IsReady g image index pages → ⊥

-- what it is for to clean blocks: packing is never done before no block is chosen
abbrev pub IsMet : Geometry → List ℕ → Goal → Type 0
IsMet g image (Pages index pages) = IsReady g image index pages
IsMet g image Packed = ⊥
IsMet g image (Free blocks) = blocks ≤ free_blocks g image

-- whether that is so
abbrev pub IfMet : Geometry → List ℕ → Goal → Bool → Type 0
IfMet g image goal true = IsMet g image goal
IfMet g image goal false = IsMet g image goal → ⊥

-- A cut in a collection keeps the image, and where that could be cleaned it recovers.
pub record CollectCut (g : Geometry) (was image : List ℕ) : Type 0 where
  pub keeps : Keeps g was image
  pub mends : CanClean g was → Recovers g image

-- A swept step: the chosen block is made fresh with the next erase count, and every other block keeps its own.
pub record SweepsBlock (g : Geometry) (before image : List ℕ) : Type 0 where
  pub swept : Swept g before image
  pub fresh : IsRenewed g swept.block before image

-- An image was reached from a first one by swept steps: these are the images from which each of them began, the last one first.
unfoldable pub SweptAlong : Geometry → (first : List ℕ) → List (List ℕ) → (image : List ℕ) → Type 0
SweptAlong g first [] image = image ≡ first
SweptAlong g first (before ∷ more) image = SweptAlong g first more before × SweepsBlock g before image

pub record SweptTo (g : Geometry) (first image : List ℕ) : Type 0 where
  pub through : List (List ℕ)
  pub steps : SweptAlong g first through image

-- no image is so
abbrev pub Never : List ℕ → Type 0
Never image = ⊥

-- no one of these images is so
unfoldable pub NoneIs : (List ℕ → Type 0) → List (List ℕ) → Type 0
NoneIs is [] = Unit {0}
NoneIs is (image ∷ images) = (is image → ⊥) × NoneIs is images

-- Blocks were cleaned, one after the other, each where the image wasn't so. Two numbers that cleanings lower (gc_measure, most_cleanings) fell by
-- as many as there were, at least, and the count of programs and erases rose by no more than the cleanings take (cost_of).
pub record SweptWhile (g : Geometry) (is : List ℕ → Type 0) (was now : List ℕ) (before after : ℕ) : Type 0 where
  pub swept : SweptTo g was now
  pub lower : gc_measure g now + length swept.through ≤ gc_measure g was
  pub most : most_cleanings g now + length swept.through ≤ most_cleanings g was
  pub needed : NoneIs is swept.through
  pub few : after ≤ before + cost_of g swept.through

-- After n cleanings the image is tidy with the table of the first, and can be cleaned where the first could.
-- Each was a swept step, has lowered the number that cleanings lower, and leaves an image that mends where it did. Tails that were ready are so still.
-- The count of programs and erases rose by no more than they take.
pub record Cleanings (g : Geometry) (n before after : ℕ) (was now : List ℕ) : Type 0 where
  pub image : IsImage g now
  pub tidy : IsTidy g now
  pub table : table_of g now ≡ table_of g was
  pub swept : SweptTo g was now
  pub count : length swept.through ≡ n
  pub lower : gc_measure g now + n ≤ gc_measure g was
  pub most : most_cleanings g now + n ≤ most_cleanings g was
  pub again : CanClean g was → CanClean g now
  pub mend : CanMend g was → CanMend g now
  pub tails : KeepsTails g was now
  pub few : after ≤ before + cost_of g swept.through

-- one cleaning, or no block is chosen and nothing is changed
abbrev pub CleanedOrNone : Geometry → Bool → (before after : ℕ) → (was now : List ℕ) → Type 0
CleanedOrNone g true before after was now = Cleanings g 1 before after was now
CleanedOrNone g false before after was now = (chosen_block g was ≡ None) × (now ≡ was) × (after ≤ before)

-- The image is tidy with its table, so many pages of each kind are had, and two blocks are free. Each cleaning began where that wasn't so. The
-- number that cleanings lower (gc_measure) fell by as many as there were, at least. Tails that were ready are so still.
pub record MadeRoom (g : Geometry) (index pages : ℕ) (was now : List ℕ) : Type 0 where
  pub tidy : IsTidy g now
  pub table : table_of g now ≡ table_of g was
  pub swept : SweptTo g was now
  pub lower : gc_measure g now + length swept.through ≤ gc_measure g was
  pub needed : NoneIs (λ image. IsReady g image index pages) swept.through
  pub ready : IsReady g now index pages
  pub tails : KeepsTails g was now

-- The image is tidy with its table, no block is chosen, and the pages aren't had or fewer than two blocks are free, as where each cleaning began.
-- The number that cleanings lower (gc_measure) fell by as many as there were, at least. It can be cleaned where the first could, and has its
-- reserve where the first had. Tails that were ready are so still.
pub record IsTight (g : Geometry) (index pages : ℕ) (was now : List ℕ) : Type 0 where
  pub tidy : IsTidy g now
  pub table : table_of g now ≡ table_of g was
  pub swept : SweptTo g was now
  pub lower : gc_measure g now + length swept.through ≤ gc_measure g was
  pub needed : NoneIs (λ image. IsReady g image index pages) swept.through
  pub none : chosen_block g now ≡ None
  pub short : IsReady g now index pages → ⊥
  pub again : CanClean g was → CanClean g now
  pub reserve : HasReserve g was → HasReserve g now
  pub tails : KeepsTails g was now

-- The image is tidy with its table, and packed: no block is worth cleaning, and all blocks are free but those that the pages of each kind need.
-- The number that cleanings lower (gc_measure) fell by as many as there were, at least. It has its reserve where the first had. Tails that were
-- ready are so still.
pub record IsCompact (g : Geometry) (was now : List ℕ) : Type 0 where
  pub tidy : IsTidy g now
  pub table : table_of g now ≡ table_of g was
  pub swept : SweptTo g was now
  pub lower : gc_measure g now + length swept.through ≤ gc_measure g was
  pub worth : (block : ℕ) → block < g.blocks → is_worth g now block ≡ false
  pub packed : IsPacked g now
  pub free : free_blocks g now + ceil (index_count g (table_of g now)) (entries g) + ceil (data_count g (table_of g now)) (entries g) ≡ g.blocks
  pub unstuck : is_stuck g now ≡ false
  pub reserve : HasReserve g was → HasReserve g now
  pub tails : KeepsTails g was now

-- The image is tidy with its table, and collection is stuck. The number that cleanings lower (gc_measure) fell by as many as there were, at
-- least. It can be cleaned where the first could, and has its reserve where the first had. Tails that were ready are so still.
pub record IsStuck (g : Geometry) (was now : List ℕ) : Type 0 where
  pub tidy : IsTidy g now
  pub table : table_of g now ≡ table_of g was
  pub swept : SweptTo g was now
  pub lower : gc_measure g now + length swept.through ≤ gc_measure g was
  pub none : chosen_block g now ≡ None
  pub stuck : is_stuck g now ≡ true
  pub again : CanClean g was → CanClean g now
  pub reserve : HasReserve g was → HasReserve g now
  pub tails : KeepsTails g was now

-- where collection stops: the goal is met, or it isn't and no block is chosen
abbrev pub StopsAt : Geometry → Goal → Bool → List ℕ → Type 0
StopsAt g goal true now = IsMet g now goal
StopsAt g goal false now = (chosen_block g now ≡ None) × (IsMet g now goal → ⊥)

-- n cleanings, and each began where the goal wasn't met
pub record CleaningsTo (g : Geometry) (goal : Goal) (n before after : ℕ) (was now : List ℕ) : Type 0 where
  pub cleanings : Cleanings g n before after was now
  pub needed : NoneIs (λ image. IsMet g image goal) cleanings.swept.through

-- so many cleanings, and where they stopped
pub record Collected (g : Geometry) (goal : Goal) (met : Bool) (before after : ℕ) (was now : List ℕ) : Type 0 where
  pub n : ℕ
  pub cleanings : Cleanings g n before after was now
  pub needed : NoneIs (λ image. IsMet g image goal) cleanings.swept.through
  pub stops : StopsAt g goal met now

-- a cleaning more where the goal wasn't met, or collection stops there
abbrev pub TurnOf : Geometry → Goal → Option Bool → (before after : ℕ) → (was now : List ℕ) → Type 0
TurnOf g goal None before after was now = Cleanings g 1 before after was now × (IsMet g was goal → ⊥)
TurnOf g goal (Some met) before after was now = (now ≡ was) × StopsAt g goal met was × (after ≤ before)

-- ---- the steps, by the counts of programs and erases before and after: the chosen block is cleaned, a turn of collection, and all turns

abbrev pub cleaning_chosen : (before after : ℕ) → Stage Bool
cleaning_chosen before after = record { needs = IsTidy; cut = CollectCut; done = λ g was now cleaned. CleanedOrNone g cleaned before after was now }

abbrev pub turning_to : Goal → (before after : ℕ) → Stage (Option Bool)
turning_to goal before after = record { needs = IsTidy; cut = CollectCut; done = λ g was now met. TurnOf g goal met before after was now }

abbrev pub collecting : Goal → (before after : ℕ) → Stage Bool
collecting goal before after = record { needs = IsTidy; cut = CollectCut; done = λ g was now met. Collected g goal met before after was now }

-- A step of a collection: the chosen block was cleaned, and others after it, each where fewer than two blocks were free; two are free now where
-- the first image could be cleaned. Or no block is chosen and nothing is changed.
pub record HasStepped (g : Geometry) (before after : ℕ) (was now : List ℕ) : Type 0 where
  pub n : ℕ
  pub cleanings : Cleanings g (1 + n) before after was now
  pub reserve : CanClean g was → HasReserve g now

abbrev pub SteppedOrNone : Geometry → Bool → (before after : ℕ) → (was now : List ℕ) → Type 0
SteppedOrNone g true before after was now = HasStepped g before after was now
SteppedOrNone g false before after was now = (chosen_block g was ≡ None) × (now ≡ was) × (after ≤ before)

abbrev pub stepping : (before after : ℕ) → Stage Bool
stepping before after = record { needs = IsTidy; cut = CollectCut; done = λ g was now cleaned. SteppedOrNone g cleaned before after was now }

-- all is packed, or collection is stuck
abbrev pub PackedOrStuck : Geometry → Bool → (was now : List ℕ) → Type 0
PackedOrStuck g true was now = IsStuck g was now
PackedOrStuck g false was now = IsCompact g was now

abbrev pub packing : (before after : ℕ) → Stage Bool
packing before after = record {
  needs = IsTidy;
  cut = CollectCut;
  done = λ g was now stuck. PackedOrStuck g stuck was now × SweptWhile g Never was now before after;
}

-- So many blocks are free, or fewer are and no block is chosen; then all is packed where the first image could be cleaned, and so many are free as
-- the pages of the table leave.
abbrev pub FreeStops : Geometry → (blocks : ℕ) → Bool → (was now : List ℕ) → Type 0
FreeStops g blocks true was now = blocks ≤ free_blocks g now
FreeStops g blocks false was now = (free_blocks g now < blocks) × (chosen_block g now ≡ None) × (CanClean g was →
    free_blocks g now + ceil (index_count g (table_of g was)) (entries g) + ceil (data_count g (table_of g was)) (entries g) ≡ g.blocks)

-- So many cleanings, each where fewer blocks were free, and where they stopped.
pub record FreedUp (g : Geometry) (blocks : ℕ) (met : Bool) (before after : ℕ) (was now : List ℕ) : Type 0 where
  pub n : ℕ
  pub cleanings : Cleanings g n before after was now
  pub needed : NoneIs (λ image. blocks ≤ free_blocks g image) cleanings.swept.through
  pub stops : FreeStops g blocks met was now

abbrev pub freeing : (blocks before after : ℕ) → Stage Bool
freeing blocks before after = record { needs = IsTidy; cut = CollectCut; done = λ g was now met. FreedUp g blocks met before after was now }
