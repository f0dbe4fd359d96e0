-- Which endings a run may have, whatever its board and its script tell.
use Rattle.std.specs.Prelude.{◌≢◌}
use Rattle.tool_parts.specs.declared.ending.Ending.{Ending}
use Rattle.tool_parts.specs.declared.ending.Ending.TheVariants.{Done, NotAFs, Mixed, BadLine, BoardFault, SourceFault, TooLong, Tight, Differ}

-- of a page that reads otherwise than it was written, two tags are told that differ
abbrev pub MayEndRun : Ending → Type 0
MayEndRun Done = Unit {0}
MayEndRun (NotAFs spoiled) = Unit {0}
MayEndRun (Mixed blocks) = Unit {0}
MayEndRun (BadLine number) = Unit {0}
MayEndRun BoardFault = Unit {0}
MayEndRun SourceFault = Unit {0}
MayEndRun TooLong = Unit {0}
MayEndRun (Tight free) = Unit {0}
MayEndRun (Differ differ) = differ.wanted ≢ differ.found
MayEndRun _ = ⊥
