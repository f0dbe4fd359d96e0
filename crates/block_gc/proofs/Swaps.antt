-- A block that is moved, and two free blocks behind.
use Rattle.std.proofs.Common.{◌≡◌, ℕ, ◌+◌, ◌<◌, ◌≤◌, List, Bool, true, false, refl, arith}
use Rattle.geometry.specs.declared.geometry.Geometry.{Geometry}
use Rattle.image_model.specs.Tidy.{IsTidy, free_blocks, HasReserve}
use Rattle.image_laws.proofs.Sounding.{keeps-on}
use Rattle.flash_view.specs.Steps.{Step, Begins, Finishes}
use Rattle.room_laws.specs.Stopping.{CanClean}
use Rattle.room_laws.specs.Recovery.{MayCut}
use Rattle.room_laws.proofs.CleanedImages.{has_cleaned_can_clean}
use Rattle.room_laws.proofs.Stops.{stopped_has_reserve}
use Rattle.block_gc.specs.Cleanings.{CanCleanBlock, CleanCut, CleanedBlock, cleaning_block}
use Rattle.block_gc.specs.Programs.{block_cost}
use Rattle.block_gc.specs.RoomMade.{FreedUp, FreeStops, freeing}
use Rattle.block_gc.specs.Moved.{MovedBlock, moving_block}
use Rattle.block_gc.proofs.Cleanings.{both_keep}

-- the cleaning of that block, and what it cost
abbrev pub cleaning_within : (block before after : ℕ) → Step (Unit {0})
cleaning_within block before after = record {
  needs = λ g was. CanCleanBlock g was block;
  cut = λ g was image. CleanCut g block was image;
  done = λ g was now ok. CleanedBlock g block was now × (after ≤ before + block_cost g was block);
}

pub move_begins : (g : Geometry) {x y : ℕ} (a : List ℕ) (block : ℕ) → CanCleanBlock g a block → Begins g a (cleaning_block block) (moving_block block x y)
move_begins g a block can = record { needs = can; cut = λ c cut. cut }

pub cleaned_begins : (g : Geometry) {x y z : ℕ} (a : List ℕ) (block : ℕ) → CanCleanBlock g a block → Begins g a (cleaning_within block x y) (moving_block block x z)
cleaned_begins g a block can = record { needs = can; cut = λ c cut. cut }

-- what was freed of an image that can be cleaned has its reserve
freed_two : (g : Geometry) (met : Bool) {x y : ℕ} (a b : List ℕ) → CanClean g a → FreedUp g 2 met x y a b → HasReserve g b
freed_two g met a b can freed = by met freed.stops
  where
    by : (m : Bool) → FreeStops g 2 m a b → HasReserve g b
    by true stops = stops
    by false stops = stopped_has_reserve g b (freed.cleanings.again can) stops.1

pub move_ends : (g : Geometry) {x y z : ℕ} (a b : List ℕ) (block : ℕ) → CanCleanBlock g a block → CleanedBlock g block a b × (y ≤ x + block_cost g a block) → Finishes g a b (freeing 2 y z) (moving_block block x z)
move_ends g {x} {y} {z} a b block can done =
    let cleaned = done.0.cleaned in
    record {
      needs = cleaned.after;
      cut = λ c cut. record {
        keeps = keeps-on g a b c (both_keep g a b can.tidy cleaned.after cleaned.table) cut.keeps;
        mends = λ may. cut.mends (has_cleaned_can_clean g a b block may.can cleaned);
      };
      done = λ c met freed. record { middle = b; between = y; cleaned = done.0; few = done.1; freed = freed; reserve = λ may. freed_two g met b c (has_cleaned_can_clean g a b block may.can cleaned) freed };
    }
