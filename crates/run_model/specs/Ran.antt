-- What calls and their replies leave on a device.
use Rattle.std.specs.Prelude.{ℕ, ◌≡◌, ◌+◌, List, ◌++◌, length, Bool, true, false}
use Rattle.geometry.specs.declared.geometry.Geometry.{Geometry}
use Rattle.nor_core.specs.declared.state.NorState.{Ghosts as NorOf}
use Rattle.nor_core.specs.Device.{Leaves}
use Rattle.table_model.specs.Ask.{Ask}
use Rattle.table_model.specs.Reply.{Answer}
use Rattle.table_model.specs.Flat.{answer}
use Rattle.table_model.specs.Steps.{steps}
use Rattle.table_model.specs.Window.{Moment, after, from_settled, IsAmong}
use Rattle.image_model.specs.Tables.{table_of}
use Rattle.image_model.specs.Tidy.{HasReserve}
use Rattle.call_model.specs.Safe.{IsSafe, HoldsImage}
use Rattle.call_model.specs.Memory.{Memory, IsAt}
use Rattle.call_model.specs.Calls.{Stands}
use Rattle.run_model.specs.Runs.{RunCall, IsFair, AreFair, asks_of, after_all, replies, LacksPage, IsCut}

-- a volume stands at a moment of a run: two blocks are free
pub record RunStands {D : Type 0} (nor : NorOf D) (g : Geometry) (d : D) (memory : Memory) (m : Moment) : Type 0 where
  pub stands : Stands nor g d memory m
  pub reserve : HasReserve g (nor.bytes d)

-- What a cut in a call of a run may leave: an image that may follow, with a table from the settled one to the last step of the call.
abbrev pub RunPublishes : Geometry → Memory → Moment → Ask → List ℕ → List ℕ → Type 0
RunPublishes g memory m ask was image = IsAt g was memory m → HasReserve g was →
    IsSafe g was image × IsAmong (table_of g image) (from_settled m (steps g true m.state ask))

-- a call of a run was answered as the flat table is, and the volume stands at the moment after it
pub record RunAnswers {D : Type 0} (nor : NorOf D) (g : Geometry) (old new : D) (memory : Memory) (m : Moment) (ask : Ask) (reply : Answer) : Type 0 where
  pub reply_is : reply ≡ (answer g true m.state ask).answer
  pub stands : RunStands nor g new memory (after g true m ask)
  pub holds : HoldsImage g (nor.bytes old) (nor.bytes new)

-- A call of a run was told: answered as with two free blocks, or in the corner as with fewer, and then the image lacks a page. The volume stands
-- at the moment after the call as it was answered.
pub record IsTold {D : Type 0} (nor : NorOf D) (g : Geometry) (old new : D) (memory : Memory) (m : Moment) (ask : Ask) (reply : Answer) : Type 0 where
  pub spare : Bool
  pub fair : IsFair g m (record { ask = ask; spare = spare })
  pub lacks : spare ≡ false → LacksPage g (nor.bytes new)
  pub reply_is : reply ≡ (answer g spare m.state ask).answer
  pub among : IsAmong (table_of g (nor.bytes new)) (from_settled m (steps g spare m.state ask))
  pub stands : RunStands nor g new memory (after g spare m ask)
  pub holds : HoldsImage g (nor.bytes old) (nor.bytes new)

-- a cut in some calls: an image that may follow, and so many bytes said that the replies and the table fit
pub record CutIn {D : Type 0} (nor : NorOf D) (g : Geometry) (old : D) (m : Moment) (calls : List RunCall) (image : List ℕ) (count : ℕ) : Type 0 where
  pub part : List ℕ
  pub count_is : count ≡ length (nor.said old) + length part
  pub safe : IsSafe g (nor.bytes old) image
  pub cut : IsCut g m calls part image

-- Some calls were done and their replies said, and the volume stands at the moment after them; a cut leaves what one in these calls may.
-- `memory` is that after the calls.
pub record Reached {D : Type 0} (nor : NorOf D) (g : Geometry) (old new : D) (memory : Memory) (m : Moment) (asks : List Ask) : Type 0 where
  pub calls : List RunCall
  pub asks_are : asks ≡ asks_of calls
  pub fair : AreFair g m calls
  pub said : nor.said new ≡ nor.said old ++ replies g m calls
  pub stands : RunStands nor g new memory (after_all g m calls)
  pub holds : HoldsImage g (nor.bytes old) (nor.bytes new)
  pub cuts : Leaves nor old new (CutIn nor g old m calls)

-- a front of the replies to some calls was said, and a cut leaves what one in these calls may
pub record SaidPart {D : Type 0} (nor : NorOf D) (g : Geometry) (old new : D) (m : Moment) (asks : List Ask) : Type 0 where
  pub calls : List RunCall
  pub asks_are : asks ≡ asks_of calls
  pub fair : AreFair g m calls
  pub part : List ℕ
  pub rest : List ℕ
  pub said : nor.said new ≡ nor.said old ++ part
  pub whole_is : replies g m calls ≡ part ++ rest
  pub cuts : Leaves nor old new (CutIn nor g old m calls)
