-- Calls that are answered by the table of counts alone, where it stands.
use Rattle.std.specs.Prelude.{◌≡◌, true, Result, IsOk}
use Rattle.nor_core.specs.declared.state.NorState.{Ghosts as NorOf}
use Rattle.flash_view.specs.declared.view.View.{View}

-- Where the table of counts stands the call answers, and asks the device for nothing.
abbrev pub IsByRows : {N T E : Type 0} {nor : NorOf N} → View N nor → View N nor → Result T E → Type 0
IsByRows old new result = old.counted ≡ true → IsOk result × (new.nor.now ≡ old.nor.now)
