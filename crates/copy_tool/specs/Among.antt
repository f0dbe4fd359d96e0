-- Which endings a copy may have, whatever its two devices tell.
use Rattle.std.specs.Prelude.{◌≢◌}
use Rattle.tool_parts.specs.declared.ending.Ending.{Ending}
use Rattle.tool_parts.specs.declared.ending.Ending.TheVariants.{Done, NotAFs, Mixed, Full, BoardFault, Damaged, BadName, Tight, SourceChipFault, Differ}

-- of a page that reads otherwise than it was written, two tags are told that differ
abbrev pub MayEndCopy : Ending → Type 0
MayEndCopy Done = Unit {0}
MayEndCopy (NotAFs spoiled) = Unit {0}
MayEndCopy (Mixed blocks) = Unit {0}
MayEndCopy (Full index pages) = Unit {0}
MayEndCopy BoardFault = Unit {0}
MayEndCopy (Damaged count) = Unit {0}
MayEndCopy (BadName at) = Unit {0}
MayEndCopy (Tight free) = Unit {0}
MayEndCopy SourceChipFault = Unit {0}
MayEndCopy (Differ differ) = differ.wanted ≢ differ.found
MayEndCopy _ = ⊥
