-- The numbers by which the tools tell why a volume is refused.
use Rattle.std.specs.Prelude.{ℕ}
use Rattle.geometry.specs.declared.error.GeoErr.{GeoErr}
use Rattle.geometry.specs.declared.error.GeoErr.TheVariants.{BadPage, BadBlock, TooFewBlocks, TooManyPages, NoRoomForMagic, BadMeta, TooManyUsable}
use Rattle.geometry.specs.declared.error.GeoErr.TheVariants.{TooFewToWrite, WrongChip}

-- the code of a refusal
abbrev pub code_of : GeoErr → ℕ
code_of BadPage = 1
code_of BadBlock = 2
code_of TooFewBlocks = 3
code_of TooManyPages = 4
code_of NoRoomForMagic = 5
code_of BadMeta = 6
code_of TooManyUsable = 7
code_of TooFewToWrite = 8
code_of WrongChip = 10
