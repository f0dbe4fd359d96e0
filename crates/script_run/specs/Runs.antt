-- What a part of a run leaves.
use Rattle.std.specs.Prelude.{◌≡◌, ◌≤◌, Bool, true, Option, Some, None, Result, Ok, Err}
use Rattle.geometry.specs.declared.geometry.Geometry.{Geometry}
use Rattle.nor_core.specs.declared.state.NorState.{Ghosts as NorOf}
use Rattle.nor_core.specs.Count.{Rose}
use Rattle.nor_core.specs.Device.{Leaves}
use Rattle.table_model.specs.Window.{Moment}
use Rattle.image_model.specs.Tidy.{HasReserve}
use Rattle.call_model.specs.Memory.{Memory}
use Rattle.call_model.specs.Calls.{Stands}
use Rattle.tool_parts.specs.declared.ending.Ending.{Ending}
use Rattle.tool_parts.specs.declared.ending.Ending.TheVariants.{Done, BadLine, BoardFault, SourceFault, TooLong, Differ}

-- the ending of a part that did not go on, if there is one
abbrev pub result_err : {T : Type 0} → Result T Ending → Option Ending
result_err (Ok value) = None
result_err (Err ending) = Some ending

-- the volume takes calls, but where the ending tells that one failed
abbrev pub StandsBy : Option Ending → Bool → Type 0
StandsBy (Some BoardFault) takes = Unit {0}
StandsBy (Some (Differ differ)) takes = Unit {0}
StandsBy _ takes = takes ≡ true

-- no fault of the board is forgotten, and it is told only where one was counted
pub record Ran {D : Type 0} (nor : NorOf D) (old new : D) (ending : Option Ending) (takes : Bool) : Type 0 where
  pub faults : nor.faults old ≤ nor.faults new
  pub cause : ending ≡ Some BoardFault → Rose (nor.faults old) (nor.faults new)
  pub stands : StandsBy ending takes

-- a volume stands at some moment, and two blocks are free
pub record StandsNow {D : Type 0} (nor : NorOf D) (g : Geometry) (d : D) (memory : Memory) : Type 0 where
  pub moment : Moment
  pub stands : Stands nor g d memory moment
  pub reserve : HasReserve g (nor.bytes d)

-- a part of a script leaves a volume that stands, but where the board failed, and ends in no other way
abbrev pub WorksTo : {D : Type 0} (nor : NorOf D) (g : Geometry) (d : D) (memory : Memory) → Option Ending → Type 0
WorksTo nor g d memory None = StandsNow nor g d memory
WorksTo nor g d memory (Some Done) = StandsNow nor g d memory
WorksTo nor g d memory (Some (BadLine number)) = StandsNow nor g d memory
WorksTo nor g d memory (Some BoardFault) = Unit {0}
WorksTo nor g d memory (Some SourceFault) = StandsNow nor g d memory
WorksTo nor g d memory (Some TooLong) = StandsNow nor g d memory
WorksTo nor g d memory _ = ⊥

-- What a part of a script leaves whatever the script tells: time goes on, and a volume that stands goes on standing.
pub record Works {D : Type 0} (nor : NorOf D) (g : Geometry) (old new : D) (was now : Memory) (ending : Option Ending) : Type 0 where
  pub goes : Leaves nor old new (λ image count. Unit {0})
  pub stands : StandsNow nor g old was → WorksTo nor g new now ending
