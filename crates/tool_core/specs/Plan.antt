-- What is refused before the device is read: words, then numbers, then the device, then the lent memory.
use Rattle.std.specs.Prelude.{ℕ, Option, Some, None, if◌then◌else◌}
use Rattle.geometry.specs.declared.error.GeoErr.{GeoErr}
use Rattle.tool_parts.specs.declared.buffers.Lengths.{Lengths}
use Rattle.tool_parts.specs.declared.ending.Ending.{Ending}
use Rattle.tool_parts.specs.declared.ending.Ending.TheVariants.{Usage}
use Rattle.tool_parts.specs.Asked.{Asked}
use Rattle.tool_parts.specs.Accepting.{read_refusal, write_refusal_of, length_refusal, refused_as}
use Rattle.tool_core.specs.declared.words.Form.{Form}
use Rattle.tool_core.specs.Words.{writes, form_of}

-- why the numbers or the device are refused for a command
abbrev pub volume_refusal : Form → ℕ → ℕ → Option GeoErr
volume_refusal f unit size = if writes f.verb then write_refusal_of f.numbers unit size else read_refusal f.numbers unit size

-- how words are refused that give this, or nothing
abbrev pub refusal_for : Option Form → (unit size : ℕ) → Lengths → Option Ending
refusal_for None unit size lent = Some Usage
refusal_for (Some f) unit size lent = refused_as (volume_refusal f unit size) (length_refusal f.numbers.page f.numbers.block f.numbers.blocks lent)

-- how a command is refused
unfoldable pub refusal_of : Asked → Option Ending
refusal_of a = refusal_for (form_of a.words) a.unit a.size a.lent
