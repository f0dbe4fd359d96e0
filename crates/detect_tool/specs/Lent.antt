-- What is lent to the command.
use Rattle.std.specs.Prelude.{ℕ, ◌≤◌, ◌*◌, ◌/◌, length, nat_lt, Option, Some, None, if◌then◌else◌}
use Rattle.detect_tool.specs.declared.memory.Memory.{Memory}
use Rattle.detect_tool.specs.declared.memory.Lengths.{Lengths}
use Rattle.detect_tool.specs.declared.memory.Part.{Part}
use Rattle.detect_tool.specs.declared.memory.Part.TheVariants.{Chip, Words, Work, Check, Found}
use Rattle.detect_tool.specs.declared.refusing.Refusal.{Refusal}
use Rattle.detect_tool.specs.declared.refusing.Refusal.TheVariants.{Short}

-- the lengths of what is lent
abbrev pub lengths_of : Memory → Lengths
lengths_of m = record { chip = length m.chip.now; words = length m.words.now; work = length m.work.now; check = length m.check.now; found = length m.found.now }

-- what is lent is enough for a chip of so many bytes
pub record HasLengths (size : ℕ) (lent : Lengths) : Type 0 where
  pub chip : size ≤ lent.chip
  pub words : 12 * (size / 4096) ≤ lent.words
  pub work : 557056 ≤ lent.work
  pub check : 65535 ≤ lent.check
  pub found : 84 * (size / 4096) ≤ lent.found

-- the refusal of a part that is too short
abbrev pub shorter : Part → (need given : ℕ) → Option Refusal
shorter part need given = if nat_lt given need then Some (Short part need given) else None

-- the first of two refusals, if there is one
abbrev pub first_of : Option Refusal → Option Refusal → Option Refusal
first_of (Some refusal) later = Some refusal
first_of None later = later

-- that of the first part that is too short for a chip of so many bytes
unfoldable pub length_refusal : (size : ℕ) → Lengths → Option Refusal
length_refusal size lent =
    first_of (shorter Chip size lent.chip)
    (first_of (shorter Words (12 * (size / 4096)) lent.words)
    (first_of (shorter Work 557056 lent.work)
    (first_of (shorter Check 65535 lent.check)
    (shorter Found (84 * (size / 4096)) lent.found))))
