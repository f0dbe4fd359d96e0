-- What drawing leaves of a board.
use Rattle.std.specs.Prelude.{ℕ, ◌≡◌, List, ◌++◌, take}
use Rattle.nor_core.specs.declared.state.NorState.{Ghosts as NorOf}
use Rattle.nor_core.specs.Count.{Rose}
use Rattle.nor_core.specs.Device.{Leaves, InSay}

-- A text was said whole. No byte of the chip changed, and a cut may leave no more than a front of the text said.
pub record Drawn {D : Type 0} (nor : NorOf D) (old new : D) (text : List ℕ) : Type 0 where
  pub bytes : nor.bytes new ≡ nor.bytes old
  pub writes : nor.device_writes new ≡ nor.device_writes old
  pub cuts : Leaves nor old new (λ image count. nor.tells old → InSay nor old text image count)
  pub said : nor.tells old → nor.said new ≡ nor.said old ++ text

-- A fault of the board was counted, and a front of a text was said. Else it is the same.
pub record Stopped {D : Type 0} (nor : NorOf D) (old new : D) (text : List ℕ) : Type 0 where
  pub bytes : nor.bytes new ≡ nor.bytes old
  pub writes : nor.device_writes new ≡ nor.device_writes old
  pub cuts : Leaves nor old new (λ image count. nor.tells old → InSay nor old text image count)
  pub fault : Rose (nor.faults old) (nor.faults new)
  pub said : nor.tells old → (n : ℕ) × (nor.said new ≡ nor.said old ++ take n text)
