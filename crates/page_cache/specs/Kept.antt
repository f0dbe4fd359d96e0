-- Copies of a device's pages that are right, and how few reads of the device they leave.
use Rattle.std.specs.Prelude.{ℕ, ◌+◌, ◌≤◌, ◌⊎◌, List}
use Rattle.geometry.specs.declared.geometry.Geometry.{Geometry}
use Rattle.geometry.specs.Numbers.{page_count}
use Rattle.nor_core.specs.Count.{Rose}
use Rattle.nor_core.specs.declared.state.NorState.{Ghosts as NorOf}
use Rattle.page_cache.specs.Frames.{frame_count, held, AllInUse, KeepsHeld, KeepsAllBut, IsFindable, AreCopies}

-- the frames hold right copies of the device's pages
pub record IsKept {D : Type 0} (nor : NorOf D) (g : Geometry) (d : D) (frames : List ℕ) : Type 0 where
  pub findable : IsFindable g frames
  pub right : nor.tells d → AreCopies g (nor.bytes d) frames

-- with a frame for each page, and where no fault was counted, each read of the device has got one more page held
pub record FewReads {D : Type 0} (nor : NorOf D) (g : Geometry) (old : D) (old_frames : List ℕ) (new : D) (new_frames : List ℕ) : Type 0 where
  pub few : page_count g ≤ frame_count g old_frames → ¬ Rose (nor.faults old) (nor.faults new) →
      nor.device_reads new + held g old_frames ≤ nor.device_reads old + held g new_frames

-- no frame was free, and one page may have gone
pub record GaveOne (g : Geometry) (old new : List ℕ) : Type 0 where
  pub full : AllInUse g old
  pub gone : ℕ
  pub others : KeepsAllBut g gone old new

-- the pages that were held stay held, or no frame was free and all but one stay
abbrev pub Stays : Geometry → List ℕ → List ℕ → Type 0
Stays g old new = GaveOne g old new ⊎ KeepsHeld g old new
