-- What saying leaves of a device that is only read besides.
use Rattle.std.specs.Prelude.{ℕ, ◌≡◌, List, ◌++◌}
use Rattle.nor_core.specs.declared.state.NorState.{Ghosts as NorOf}
use Rattle.nor_core.specs.Device.{Leaves, InSay}

-- The bytes and the count of programs and erases are as before, and a cut may leave no more than a front of the text said.
pub record OnlySays {D : Type 0} (nor : NorOf D) (old new : D) (text : List ℕ) : Type 0 where
  pub bytes : nor.bytes new ≡ nor.bytes old
  pub writes : nor.device_writes new ≡ nor.device_writes old
  pub cuts : Leaves nor old new (λ image count. nor.tells old → InSay nor old text image count)

-- a front of a text was said
pub record SaysFront {D : Type 0} (nor : NorOf D) (old new : D) (text : List ℕ) : Type 0 where
  pub part : List ℕ
  pub rest : List ℕ
  pub said : nor.said new ≡ nor.said old ++ part
  pub whole_is : text ≡ part ++ rest
