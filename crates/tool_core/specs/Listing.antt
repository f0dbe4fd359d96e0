-- What a listing leaves and answers.
use Rattle.std.specs.Prelude.{ℕ, List}
use Rattle.geometry.specs.declared.geometry.Geometry.{Geometry}
use Rattle.nor_core.specs.declared.state.NorState.{Ghosts as NorOf}
use Rattle.image_tool.specs.Lists.{list_of}
use Rattle.tool_parts.specs.declared.ending.Ending.{Ending}
use Rattle.tool_parts.specs.Refusals.{mount_refusal, list_ending, unless_refused}
use Rattle.tool_parts.specs.Telling.{OnlyTells, OnlyConcludes}

-- what a listing says before its closing line: the list of the image, where that mounts
abbrev pub listed_text : Geometry → List ℕ → List ℕ
listed_text g image = unless_refused (mount_refusal g image) (list_of g image)

-- before its closing line: it said the list, and wrote nothing
abbrev pub ListsTo : {D : Type 0} (nor : NorOf D) (g : Geometry) (old new : D) (result : Ending) → Type 0
ListsTo nor g old new result = OnlyTells nor old new (listed_text g (nor.bytes old)) (list_ending g (nor.bytes old)) result

-- A listing writes nothing, and says the list of the image and a closing line.
abbrev pub DoesList : {D : Type 0} (nor : NorOf D) (g : Geometry) (cache : ℕ) (old new : D) (status : ℕ) → Type 0
DoesList nor g cache old new status = OnlyConcludes nor g cache old new (listed_text g (nor.bytes old)) (list_ending g (nor.bytes old)) status
