-- What a call does to a volume, by the flat table.
use Rattle.std.specs.Prelude.{◌≡◌, ℕ, List}
use Rattle.geometry.specs.declared.geometry.Geometry.{Geometry}
use Rattle.nor_core.specs.declared.state.NorState.{Ghosts as NorOf}
use Rattle.table_model.specs.Ask.{Ask}
use Rattle.table_model.specs.Reply.{Answer}
use Rattle.table_model.specs.Flat.{answer}
use Rattle.table_model.specs.Steps.{steps}
use Rattle.table_model.specs.Window.{Moment, after, from_settled, IsAmong}
use Rattle.image_model.specs.Tables.{table_of}
use Rattle.image_model.specs.Tidy.{has_spare}
use Rattle.call_model.specs.Safe.{IsSafe, HoldsImage}
use Rattle.call_model.specs.Memory.{Memory, IsAt}

-- a volume stands at a moment: its device tells its bytes, and they and its memory are those of that moment
pub record Stands {D : Type 0} (nor : NorOf D) (g : Geometry) (d : D) (memory : Memory) (m : Moment) : Type 0 where
  pub tells : nor.tells d
  pub image : IsAt g (nor.bytes d) memory m

-- What a cut in a call may leave of the image of a volume at a moment: one that may follow it, with a table from the settled one to the
-- last step of the call.
abbrev pub Publishes : Geometry → Memory → Moment → Ask → List ℕ → List ℕ → Type 0
Publishes g memory m ask was image = IsAt g was memory m →
    IsSafe g was image × IsAmong (table_of g image) (from_settled m (steps g (has_spare g was) m.state ask))

-- A call was answered as the flat table is, and the volume stands at the moment after it. `memory` is that after the call.
pub record Answers {D : Type 0} (nor : NorOf D) (g : Geometry) (old new : D) (memory : Memory) (m : Moment) (ask : Ask) (reply : Answer) : Type 0 where
  pub reply_is : reply ≡ (answer g (has_spare g (nor.bytes old)) m.state ask).answer
  pub stands : Stands nor g new memory (after g (has_spare g (nor.bytes old)) m ask)
  pub holds : HoldsImage g (nor.bytes old) (nor.bytes new)
