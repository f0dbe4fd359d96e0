-- Endings of a command that was not refused before the device was read.
use Rattle.std.specs.Prelude.{ℕ, ◌≢◌, Option, Some, None}
use Rattle.tool_parts.specs.declared.ending.Ending.{Ending}
use Rattle.tool_parts.specs.Closing.{status_of}

-- An ending that isn't told before the device is read, for words, numbers or lent memory (1, 2, 10), or for a folder's sizes and names (6, 13);
-- and no folder failed (9).
pub record IsLater (ending : Ending) : Type 0 where
  pub no_usage : status_of ending ≢ 1
  pub no_geometry : status_of ending ≢ 2
  pub no_short : status_of ending ≢ 10
  pub no_full : status_of ending ≢ 6
  pub no_names : status_of ending ≢ 13
  pub no_folder : status_of ending ≢ 9

-- the same, where a folder may have failed
pub record IsUnrefused (ending : Ending) : Type 0 where
  pub no_usage : status_of ending ≢ 1
  pub no_geometry : status_of ending ≢ 2
  pub no_short : status_of ending ≢ 10
  pub no_full : status_of ending ≢ 6
  pub no_names : status_of ending ≢ 13

-- the same of an ending, if there is one
abbrev pub IsLaterIf : Option Ending → Type 0
IsLaterIf None = Unit {0}
IsLaterIf (Some ending) = IsLater ending

-- a status that isn't told before the device is read
pub record IsLaterStatus (status : ℕ) : Type 0 where
  pub no_usage : status ≢ 1
  pub no_geometry : status ≢ 2
  pub no_short : status ≢ 10
