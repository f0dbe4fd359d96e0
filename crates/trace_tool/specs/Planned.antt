-- What is refused before the chip is read, and the volume of a command that isn't refused.
use Rattle.std.specs.Prelude.{◌≡◌, ℕ, Option, Some, None}
use Rattle.geometry.specs.declared.geometry.Geometry.{Geometry}
use Rattle.geometry.specs.Numbers.{IsOf}
use Rattle.tool_parts.specs.declared.words.Numbers.{Numbers}
use Rattle.tool_parts.specs.declared.buffers.Lengths.{Lengths}
use Rattle.tool_parts.specs.declared.ending.Ending.{Ending}
use Rattle.tool_parts.specs.declared.ending.Ending.TheVariants.{Usage}
use Rattle.tool_parts.specs.Asked.{Asked}
use Rattle.tool_parts.specs.Accepting.{write_refusal_of, length_refusal, refused_as}
use Rattle.trace_tool.specs.Words.{numbers_of}

-- how words are refused that give these numbers, or none: as those of `run`
abbrev pub refusal_for : Option Numbers → (unit size : ℕ) → Lengths → Option Ending
refusal_for None unit size lent = Some Usage
refusal_for (Some n) unit size lent = refused_as (write_refusal_of n unit size) (length_refusal n.page n.block n.blocks lent)

-- how the command is refused
unfoldable pub refusal_of : Asked → Option Ending
refusal_of a = refusal_for (numbers_of a.words) a.unit a.size a.lent

-- The words are those of a volume of that geometry, and nothing refuses it.
pub record IsPlanned (a : Asked) (g : Geometry) : Type 0 where
  pub numbers : Numbers
  pub words_are : numbers_of a.words ≡ Some numbers
  pub numbers_are : IsOf g numbers.page numbers.block numbers.blocks numbers.block numbers.meta numbers.magic
  pub accepted : refusal_of a ≡ None
