-- How a command ends.
use Rattle.std.specs.Prelude.{ℕ, ◌≡◌, ◌≢◌, ◌⊎◌, ◌++◌, List, [], Option, Some, None}
use Rattle.geometry.specs.declared.geometry.Geometry.{Geometry}
use Rattle.nor_core.specs.declared.state.NorState.{Ghosts as NorOf}
use Rattle.nor_core.specs.Count.{Rose}
use Rattle.nor_core.specs.Device.{Leaves, InSay, Says}
use Rattle.image_model.specs.Tidy.{HasReserve}
use Rattle.image_tool.specs.Saying.{SaysFront}
use Rattle.tool_parts.specs.declared.ending.Ending.{Ending}
use Rattle.tool_parts.specs.declared.ending.Ending.TheVariants.{BoardFault}
use Rattle.tool_parts.specs.Closing.{status_of, closing_line_of}

-- the status is the one that is wanted, or 7 where a fault of the board rose
abbrev pub EndsWith : {D : Type 0} (nor : NorOf D) (old new : D) (wanted status : ℕ) → Type 0
EndsWith nor old new wanted status = (status ≡ wanted) ⊎ ((status ≡ 7) × Rose (nor.faults old) (nor.faults new))

-- that of an ending
abbrev pub EndsAs : {D : Type 0} (nor : NorOf D) (old new : D) (ending : Ending) (status : ℕ) → Type 0
EndsAs nor old new ending status = EndsWith nor old new (status_of ending) status

-- Nothing happens but that a line is said: the bytes, the reads and the writes of the device are as before.
pub record ClosesWith {D : Type 0} (nor : NorOf D) (old new : D) (line : List ℕ) (wanted status : ℕ) : Type 0 where
  pub ends : EndsWith nor old new wanted status
  pub says : Says nor old new line
  pub whole : nor.tells old → status ≢ 7 → nor.said new ≡ nor.said old ++ line
  pub cuts : Leaves nor old new (InSay nor old line)
  pub silent : line ≡ [] → new ≡ old

-- the closing line of an ending is said, and nothing else happens
abbrev pub OnlyCloses : {D : Type 0} (nor : NorOf D) (old new : D) (ending : Ending) (status : ℕ) → Type 0
OnlyCloses nor old new ending status = ClosesWith nor old new (closing_line_of ending) (status_of ending) status

-- A command that is refused only says its closing line; another has none of the statuses of a refusal.
abbrev pub RefusesIf : {D : Type 0} (nor : NorOf D) (old new : D) (refusal : Option Ending) (status : ℕ) → Type 0
RefusesIf nor old new None status = (status ≢ 1) × (status ≢ 2) × (status ≢ 10)
RefusesIf nor old new (Some ending) status = OnlyCloses nor old new ending status

-- Before its closing line a command said a text, or a front of it where the board failed.
abbrev pub Speaks : {D : Type 0} (nor : NorOf D) (old new : D) (text : List ℕ) (ending result : Ending) → Type 0
Speaks nor old new text ending result = ((result ≡ BoardFault) × SaysFront nor old new text) ⊎ ((result ≡ ending) × (nor.said new ≡ nor.said old ++ text))

-- A command said a text, its closing line with it, and answers the status that is wanted; or a front of the text, and 7, where a fault of
-- the board rose.
pub record SaysWhole {D : Type 0} (nor : NorOf D) (old new : D) (text : List ℕ) (wanted status : ℕ) : Type 0 where
  pub ends : EndsWith nor old new wanted status
  pub whole : status ≢ 7 → nor.said new ≡ nor.said old ++ text
  pub front : SaysFront nor old new text

-- the text and the closing line of an ending
abbrev pub Concludes : {D : Type 0} (nor : NorOf D) (old new : D) (text : List ℕ) (ending : Ending) (status : ℕ) → Type 0
Concludes nor old new text ending status = SaysWhole nor old new (text ++ closing_line_of ending) (status_of ending) status

-- the bytes and the count of programs and erases are as before, and a cut leaves these bytes
pub record WritesNone {D : Type 0} (nor : NorOf D) (old new : D) : Type 0 where
  pub bytes : nor.bytes new ≡ nor.bytes old
  pub writes : nor.device_writes new ≡ nor.device_writes old
  pub cuts : Leaves nor old new (λ image count. nor.tells old → image ≡ nor.bytes old)

-- The last image has two free blocks, if the board didn't fail, and the status isn't that of fewer.
pub record HasMended {D : Type 0} (nor : NorOf D) (g : Geometry) (new : D) (status : ℕ) : Type 0 where
  pub reserve : status ≢ 7 → HasReserve g (nor.bytes new)
  pub not_tight : status ≢ 14
