-- Runs in which each call has its pages.
use Rattle.std.specs.Prelude.{◌≡◌, ◌⊎◌, List, [], ◌∷◌, ◌++◌, true}
use Rattle.geometry.specs.declared.geometry.Geometry.{Geometry}
use Rattle.table_model.specs.Room.{has_room}
use Rattle.table_model.specs.Ask.{Ask}
use Rattle.table_model.specs.Window.{Moment, after}
use Rattle.run_model.specs.Runs.{RunCall, IsCorner, AreFair, plain, asks_of}

-- none of these calls, answered one after the other as with two free blocks, is in the corner
unfoldable pub AllFindRoom : Geometry → Moment → List Ask → Type 0
AllFindRoom g m [] = Unit {0}
AllFindRoom g m (ask ∷ asks) = (IsCorner g m.state ask → ⊥) × AllFindRoom g (after g true m ask) asks

-- The table has room, which it keeps from call to call; or no call is in the corner, as where none cuts a file.
abbrev pub IsRoomy : Geometry → Moment → List Ask → Type 0
IsRoomy g m asks = (has_room g m.state.table ≡ true) ⊎ AllFindRoom g m asks

-- Then each call is answered as with two free blocks.
abbrev pub RoomyIsPlain : Geometry → Type 0
RoomyIsPlain g = (m : Moment) (calls : List RunCall) (later : List Ask) → IsRoomy g m (asks_of calls ++ later) → AreFair g m calls →
    calls ≡ plain (asks_of calls)
