-- What a finished program leaves, byte by byte.
use Rattle.std.specs.Prelude.{◌≡◌, ℕ, ◌+◌, ◌<◌, List, length, slice_index, bit_and}
use Rattle.nor_core.specs.Flash.{programmed, SameOutside}

-- each byte of the range is the old and the asked byte, bit by bit, and all others are as they were (NOR program)
pub record Programmed (at : ℕ) (asked old new : List ℕ) : Type 0 where
  pub outside : SameOutside at (length asked) old new
  pub bytes : (i : ℕ) → i < length asked → slice_index new (at + i) ≡ bit_and (slice_index old (at + i)) (slice_index asked i)

-- So does what a device leaves that has finished a program.
abbrev pub FinishedIsProgrammed : Type 0
FinishedIsProgrammed = (at : ℕ) (asked old : List ℕ) → Programmed at asked old (programmed old at asked)
