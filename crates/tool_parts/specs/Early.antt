-- Endings of a run that was refused before the device was read.
use Rattle.std.specs.Prelude.{Option, Some, None}
use Rattle.tool_parts.specs.declared.ending.Ending.{Ending}
use Rattle.tool_parts.specs.declared.ending.Ending.TheVariants.{Usage, Geometry, ShortBuffer}

-- words, numbers or the device, and lent memory
abbrev pub IsEarly : Ending → Type 0
IsEarly Usage = Unit {0}
IsEarly (Geometry why) = Unit {0}
IsEarly (ShortBuffer part need given) = Unit {0}
IsEarly _ = ⊥

abbrev pub IsEarlyIf : Option Ending → Type 0
IsEarlyIf None = Unit {0}
IsEarlyIf (Some ending) = IsEarly ending
