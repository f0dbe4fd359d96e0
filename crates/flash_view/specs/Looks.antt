-- What a call that only looks at a volume tells.
use Rattle.std.specs.Prelude.{ℕ, List, Result, OnErr, IfOk}
use Rattle.geometry.specs.declared.geometry.Geometry.{Geometry}
use Rattle.nor_core.specs.Count.{Rose}
use Rattle.nor_core.specs.declared.state.NorState.{Ghosts as NorOf}
use Rattle.flash_view.specs.declared.view.View.{View}
use Rattle.flash_view.specs.Same.{OnlyLooks}

-- The call only looked: where it failed a fault was counted, and where the device tells its bytes the result tells what `tells` says of the image.
pub record Looks {N T E : Type 0} {nor : NorOf N} (old new : View N nor) (result : Result T E) (tells : Geometry → List ℕ → T → Type 0) : Type 0 where
  pub only : OnlyLooks old new
  pub cause : OnErr result (Rose (nor.faults old.nor.now) (nor.faults new.nor.now))
  pub told : nor.tells old.nor.now → IfOk result (tells old.geometry (nor.bytes old.nor.now))
