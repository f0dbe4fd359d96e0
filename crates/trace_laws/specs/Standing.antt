-- What may stand at a moment of a run of some calls.
use Rattle.std.specs.Prelude.{◌≡◌, ◌↔◌, ℕ, ◌<◌, ◌++◌, List, [], ◌∷◌, length, Bool, true}
use Rattle.geometry.specs.declared.geometry.Geometry.{Geometry}
use Rattle.table_model.specs.Ask.{Ask}
use Rattle.table_model.specs.Steps.{steps}
use Rattle.table_model.specs.Window.{Moment, after, from_settled, IsAmong}
use Rattle.image_model.specs.Tables.{table_of}
use Rattle.run_model.specs.Runs.{RunCall, IsFair, AreFair, asks_of, said_of, IsInCall, IsCut}

-- Some first of these calls were asked, each answered as a run answers it, and a cut in them leaves these bytes said and this image.
pub record MayStand (g : Geometry) (m : Moment) (asks : List Ask) (said image : List ℕ) : Type 0 where
  pub done : List RunCall
  pub later : List Ask
  pub asks_are : asks ≡ asks_of done ++ later
  pub fair : AreFair g m done
  pub cut : IsCut g m done said image

-- a call, and whether it is answered as with two free blocks
abbrev pub call_of : Ask → Bool → RunCall
call_of ask spare = record { ask = ask; spare = spare }

-- its reply line
abbrev pub line_of : Geometry → Moment → Ask → Bool → List ℕ
line_of g m ask spare = said_of g m (call_of ask spare)

-- A part of its reply was said, and the table is one that a cut in it may leave then.
pub record IsInFirst (g : Geometry) (m : Moment) (ask : Ask) (part image : List ℕ) : Type 0 where
  pub spare : Bool
  pub fair : IsFair g m (call_of ask spare)
  pub here : IsInCall g m (call_of ask spare) part image

-- these bytes don't begin with its whole reply line, as a run answers it
abbrev pub IsUnanswered : Geometry → Moment → Ask → List ℕ → Type 0
IsUnanswered g m ask said = (spare : Bool) → IsFair g m (call_of ask spare) → (more : List ℕ) → said ≡ line_of g m ask spare ++ more → ⊥

-- Behind the last call nothing was said, and the table is one that waits; before a reply it is one up to the last step of the next call; in a
-- reply that of its own steps too; and behind a whole one the calls go on from there.
pub record WalksOn (g : Geometry) : Type 0 where
  pub at_end : (m : Moment) (said image : List ℕ) → MayStand g m [] said image ↔ ((said ≡ []) × IsAmong (table_of g image) (from_settled m []))
  pub before : (m : Moment) (ask : Ask) (asks : List Ask) (image : List ℕ) →
      MayStand g m (ask ∷ asks) [] image ↔ IsAmong (table_of g image) (from_settled m (steps g true m.state ask))
  pub inside : (m : Moment) (ask : Ask) (asks : List Ask) (part image : List ℕ) → 0 < length part → IsUnanswered g m ask part →
      MayStand g m (ask ∷ asks) part image ↔ IsInFirst g m ask part image
  pub behind : (m : Moment) (ask : Ask) (asks : List Ask) (spare : Bool) (more image : List ℕ) → IsFair g m (call_of ask spare) →
      MayStand g m (ask ∷ asks) (line_of g m ask spare ++ more) image ↔ MayStand g (after g spare m ask) asks more image
