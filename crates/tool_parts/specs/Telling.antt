-- What a command leaves and answers that only reads.
use Rattle.std.specs.Prelude.{ℕ, ◌++◌, List}
use Rattle.geometry.specs.declared.geometry.Geometry.{Geometry}
use Rattle.nor_core.specs.declared.state.NorState.{Ghosts as NorOf}
use Rattle.image_tool.specs.Saying.{OnlySays}
use Rattle.tool_parts.specs.declared.ending.Ending.{Ending}
use Rattle.tool_parts.specs.Closing.{closing_line_of}
use Rattle.tool_parts.specs.Endings.{Speaks, Concludes}
use Rattle.tool_parts.specs.Reads.{ReadsOnce}

-- before its closing line: it said a text, and wrote nothing
pub record OnlyTells {D : Type 0} (nor : NorOf D) (old new : D) (text : List ℕ) (ending result : Ending) : Type 0 where
  pub says : OnlySays nor old new text
  pub speaks : nor.tells old → Speaks nor old new text ending result

-- A command that only reads writes nothing, and says a text and the closing line of an ending.
pub record OnlyConcludes {D : Type 0} (nor : NorOf D) (g : Geometry) (cache : ℕ) (old new : D) (text : List ℕ) (ending : Ending) (status : ℕ) : Type 0 where
  -- the bytes stay, and a cut leaves them and a front of what is said
  pub says : OnlySays nor old new (text ++ closing_line_of ending)
  -- the text and the closing line are said
  pub told : nor.tells old → Concludes nor old new text ending status
  -- each page is read once at most
  pub reads : ReadsOnce nor g cache old new
