-- What the command says of a chip.
use Rattle.std.specs.Prelude.{ℕ, ◌≡◌, ◌⊎◌, ◌++◌, List, Result, OnOk, OnErr}
use Rattle.nor_core.specs.declared.device.Failed.{Failed}
use Rattle.nor_core.specs.declared.state.NorState.{Ghosts as NorOf}
use Rattle.nor_core.specs.Count.{Rose}
use Rattle.nor_core.specs.Device.{OnlyReads}
use Rattle.image_tool.specs.Saying.{OnlySays, SaysFront}
use Rattle.volume_rank.specs.declared.found.Found.{Found}
use Rattle.tool_parts.specs.Endings.{EndsWith, SaysWhole}
use Rattle.detect_tool.specs.Lines.{detect_text, detect_status}
use Rattle.detect_tool.specs.Ranked.{AreRanked}

-- a text was said, or a front of it where the board failed
pub record SaysAll {D : Type 0} (nor : NorOf D) (old new : D) (text : List ℕ) (result : Result (Unit {0}) Failed) : Type 0 where
  pub says : OnlySays nor old new text
  pub whole : nor.tells old → OnOk result (nor.said new ≡ nor.said old ++ text)
  pub front : nor.tells old → OnErr result (SaysFront nor old new text)

-- The chip could not be read: nothing is said.
pub record ReadsNot {D : Type 0} (nor : NorOf D) (old new : D) (status : ℕ) : Type 0 where
  pub status_is : status ≡ 7
  pub rose : Rose (nor.faults old) (nor.faults new)
  pub reads : OnlyReads nor old new

-- The lines of the candidates were said, best first, and where there is none a closing line; or a front of these, and status 7,
-- where a fault of the board rose. Nothing is written, and a cut leaves a front of what is said.
pub record DetectsAll {D : Type 0} (nor : NorOf D) (old new : D) (status : ℕ) : Type 0 where
  pub list : List Found
  pub ranked : nor.tells old → AreRanked (nor.bytes old) list
  pub ends : EndsWith nor old new (detect_status list) status
  pub says : OnlySays nor old new (detect_text list)
  pub told : nor.tells old → SaysWhole nor old new (detect_text list) (detect_status list) status

-- what the command leaves and answers that isn't refused
abbrev pub Detects : {D : Type 0} (nor : NorOf D) (old new : D) (status : ℕ) → Type 0
Detects nor old new status = ReadsNot nor old new status ⊎ DetectsAll nor old new status
