-- Which endings each command may have, whatever its board, its script and its folder tell.
use Rattle.std.specs.Prelude.{◌≡◌, ◌≢◌, ℕ}
use Rattle.tool_parts.specs.declared.ending.Ending.{Ending}
use Rattle.tool_parts.specs.declared.ending.Ending.TheVariants.{Done, NotAFs, Mixed, Full, BoardFault, FolderFault, Damaged, BadName, Tight, NoSuchId, Differ}
use Rattle.tool_parts.specs.Among.{MayEndWork}
use Rattle.script_run.specs.Among.{MayEndRun}
use Rattle.tool_core.specs.declared.words.Verb.{Verb}
use Rattle.tool_core.specs.declared.words.Verb.TheVariants.{Run, List, Check, Extract, Make, Soak, Scrub, Map}

-- a listing
abbrev pub MayEndList : Ending → Type 0
MayEndList Done = Unit {0}
MayEndList (NotAFs spoiled) = Unit {0}
MayEndList BoardFault = Unit {0}
MayEndList (Damaged count) = Unit {0}
MayEndList _ = ⊥

-- an extraction; of a page that reads otherwise than it was written, two tags are told that differ
abbrev pub MayEndExtract : Ending → Type 0
MayEndExtract Done = Unit {0}
MayEndExtract (NotAFs spoiled) = Unit {0}
MayEndExtract BoardFault = Unit {0}
MayEndExtract FolderFault = Unit {0}
MayEndExtract (Damaged count) = Unit {0}
MayEndExtract (Differ differ) = differ.wanted ≢ differ.found
MayEndExtract _ = ⊥

-- a check
abbrev pub MayEndReport : Ending → Type 0
MayEndReport Done = Unit {0}
MayEndReport (NotAFs spoiled) = Unit {0}
MayEndReport (Mixed blocks) = Unit {0}
MayEndReport BoardFault = Unit {0}
MayEndReport (Damaged count) = Unit {0}
MayEndReport (Tight free) = Unit {0}
MayEndReport (Differ differ) = differ.wanted ≢ differ.found
MayEndReport _ = ⊥

-- a make
abbrev pub MayEndMake : Ending → Type 0
MayEndMake Done = Unit {0}
MayEndMake (NotAFs spoiled) = Unit {0}
MayEndMake (Mixed blocks) = Unit {0}
MayEndMake (Full index pages) = Unit {0}
MayEndMake BoardFault = Unit {0}
MayEndMake FolderFault = Unit {0}
MayEndMake (BadName at) = Unit {0}
MayEndMake (Tight free) = Unit {0}
MayEndMake (Differ differ) = differ.wanted ≢ differ.found
MayEndMake _ = ⊥

-- a map of the file of an id; where none has it, that id is told
abbrev pub MayEndMap : (id : ℕ) → Ending → Type 0
MayEndMap id Done = Unit {0}
MayEndMap id (NotAFs spoiled) = Unit {0}
MayEndMap id (Mixed blocks) = Unit {0}
MayEndMap id BoardFault = Unit {0}
MayEndMap id (Tight free) = Unit {0}
MayEndMap id (NoSuchId other) = other ≡ id
MayEndMap id (Differ differ) = differ.wanted ≢ differ.found
MayEndMap id _ = ⊥

-- each command
abbrev pub MayEnd : Verb → Ending → Type 0
MayEnd Run = MayEndRun
MayEnd List = MayEndList
MayEnd Check = MayEndReport
MayEnd Extract = MayEndExtract
MayEnd Make = MayEndMake
MayEnd (Soak seed turns) = MayEndWork
MayEnd (Scrub limit) = MayEndWork
MayEnd (Map id) = MayEndMap id
