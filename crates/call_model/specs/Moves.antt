-- What a call does to the waiting bytes of a volume.
use Rattle.std.specs.Prelude.{◌≡◌, ℕ, List, [], Bool, true, false, replicate}
use Rattle.geometry.specs.declared.geometry.Geometry.{Geometry}
use Rattle.table_model.specs.Ask.{Ask, Writes, Fills, Tells}
use Rattle.table_model.specs.Flat.{answer}
use Rattle.table_model.specs.Steps.{steps, is_refusal}
use Rattle.table_model.specs.Window.{Moment, after, settled_at, begins, goes_on, leaves_window, incoming_of, continues, may_wait, from_settled, IsAmong}
use Rattle.call_model.specs.Memory.{Memory, IsAt}

-- Telling an offset leaves the window.
abbrev pub LeavesWindow : Geometry → Type 0
LeavesWindow g = (spare : Bool) (m : Moment) (ask : Ask) → leaves_window ask ≡ true →
    after g spare m ask ≡ record m { state = (answer g spare m.state ask).next }

-- so it leaves the whole moment
abbrev pub TellStays : Geometry → Type 0
TellStays g = (spare : Bool) (m : Moment) (fd : ℕ) → after g spare m (Tells fd) ≡ m

-- Any other call that is refused settles it, and so does one that writes nothing.
abbrev pub RefusedSettles : Geometry → Type 0
RefusedSettles g = (spare : Bool) (m : Moment) (ask : Ask) → leaves_window ask ≡ false → is_refusal (answer g spare m.state ask).answer ≡ true →
    after g spare m ask ≡ settled_at (answer g spare m.state ask).next

abbrev pub OtherSettles : Geometry → Type 0
OtherSettles g = (spare : Bool) (m : Moment) (ask : Ask) → leaves_window ask ≡ false → continues g m.window (incoming_of m.state ask) ≡ false →
    may_wait g (incoming_of m.state ask) ≡ false →
    after g spare m ask ≡ settled_at (answer g spare m.state ask).next

-- A write that isn't refused goes on with it, or begins another one.
abbrev pub WriteGoesOn : Geometry → Type 0
WriteGoesOn g = (spare : Bool) (m : Moment) (ask : Ask) → leaves_window ask ≡ false → is_refusal (answer g spare m.state ask).answer ≡ false →
    continues g m.window (incoming_of m.state ask) ≡ true →
    after g spare m ask ≡ goes_on m (answer g spare m.state ask).next (steps g spare m.state ask) (incoming_of m.state ask)

abbrev pub WriteBegins : Geometry → Type 0
WriteBegins g = (spare : Bool) (m : Moment) (ask : Ask) → leaves_window ask ≡ false → is_refusal (answer g spare m.state ask).answer ≡ false →
    continues g m.window (incoming_of m.state ask) ≡ false →
    may_wait g (incoming_of m.state ask) ≡ true →
    after g spare m ask ≡ begins m (answer g spare m.state ask).next (steps g spare m.state ask) (incoming_of m.state ask)

-- A call that neither leaves the window nor goes on with it leaves what it would where all was settled before.
abbrev pub AfterSettled : Geometry → Type 0
AfterSettled g = (spare : Bool) (m : Moment) (ask : Ask) → leaves_window ask ≡ false → continues g m.window (incoming_of m.state ask) ≡ false →
    after g spare (settled_at m.state) ask ≡ after g spare m ask

-- so does one that is refused
abbrev pub AfterRefused : Geometry → Type 0
AfterRefused g = (spare : Bool) (m : Moment) (ask : Ask) → leaves_window ask ≡ false → is_refusal (answer g spare m.state ask).answer ≡ true →
    after g spare (settled_at m.state) ask ≡ after g spare m ask

-- The table of a state is the settled one of its moment, or one that waits.
abbrev pub SettledAmong : Geometry → Type 0
SettledAmong g = (image : List ℕ) (memory : Memory) (m : Moment) → IsAt g image memory m → IsAmong m.state.table (from_settled m [])

-- A fill is the write of its bytes.
pub record FillsAsWrites (g : Geometry) (spare : Bool) (m : Moment) (fd count byte : ℕ) : Type 0 where
  pub answer_is : answer g spare m.state (Fills fd count byte) ≡ answer g spare m.state (Writes fd (replicate count byte))
  pub steps_are : steps g spare m.state (Fills fd count byte) ≡ steps g spare m.state (Writes fd (replicate count byte))
  pub after_is : after g spare m (Fills fd count byte) ≡ after g spare m (Writes fd (replicate count byte))
