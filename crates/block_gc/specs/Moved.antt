-- A block that is moved, and two free blocks behind.
use Rattle.std.specs.Prelude.{◌≡◌, ℕ, ◌+◌, ◌≤◌, List, Bool}
use Rattle.geometry.specs.declared.geometry.Geometry.{Geometry}
use Rattle.image_model.specs.Tidy.{HasReserve}
use Rattle.flash_view.specs.Steps.{Step}
use Rattle.room_laws.specs.Recovery.{MayCut}
use Rattle.block_gc.specs.Cleanings.{CanCleanBlock, CleanCut, CleanedBlock}
use Rattle.block_gc.specs.Programs.{block_cost}
use Rattle.block_gc.specs.RoomMade.{FreedUp}

-- The block was cleaned, then others until two were free, if the block might be cut. The count of programs and erases rose by no more than that
-- cleaning takes, and by no more than the others take.
pub record MovedBlock (g : Geometry) (block : ℕ) (met : Bool) (before after : ℕ) (was now : List ℕ) : Type 0 where
  pub middle : List ℕ
  pub between : ℕ
  pub cleaned : CleanedBlock g block was middle
  pub few : between ≤ before + block_cost g was block
  pub freed : FreedUp g 2 met between after middle now
  pub reserve : MayCut g was block → HasReserve g now

abbrev pub moving_block : (block before after : ℕ) → Step Bool
moving_block block before after = record {
  needs = λ g was. CanCleanBlock g was block;
  cut = λ g was image. CleanCut g block was image;
  done = λ g was now met. MovedBlock g block met before after was now;
}
