-- The words of the command.
use Rattle.std.specs.Prelude.{◌≡◌, ℕ, List, length, Bool, not, ◌==◌, ◌&&◌, ◌||◌, Option, Some, None, if◌then◌else◌, codes}
use Rattle.geometry.specs.declared.geometry.Geometry.{Geometry}
use Rattle.geometry.specs.Numbers.{IsOf}
use Rattle.tool_parts.specs.declared.words.Numbers.{Numbers}
use Rattle.tool_parts.specs.declared.buffers.Lengths.{Lengths}
use Rattle.tool_parts.specs.declared.ending.Ending.{Ending}
use Rattle.tool_parts.specs.declared.ending.Ending.TheVariants.{Usage}
use Rattle.tool_parts.specs.Words.{is_text, word_at, numbers_in}
use Rattle.tool_parts.specs.Accepting.{write_refusal_of, length_refusal, refused_as}
use Rattle.tool_parts.specs.Asked.{Asked}

-- they are `rehearse PAGE BLOCK BLOCKS META MAGIC CHIP`, with `tables` behind them or not; CHIP is any word that isn't empty
abbrev pub has_form : List (List ℕ) → Bool
has_form words =
    is_text (word_at words 0) (codes "rehearse") && not (length (word_at words 6) == 0)
    && ((length words == 7) || ((length words == 8) && is_text (word_at words 7) (codes "tables")))

-- the numbers of the volume, where they have that form
unfoldable pub numbers_of : List (List ℕ) → Option Numbers
numbers_of words = if has_form words then numbers_in words else None

-- each table is to be said
abbrev pub wants_tables : List (List ℕ) → Bool
wants_tables words = length words == 8

-- how words are refused that give these numbers, or none: as `run` refuses them
abbrev pub refusal_for : Option Numbers → (unit size : ℕ) → Lengths → Option Ending
refusal_for None unit size lent = Some Usage
refusal_for (Some n) unit size lent = refused_as (write_refusal_of n unit size) (length_refusal n.page n.block n.blocks lent)

-- how a rehearsal is refused before the chip is read
unfoldable pub refusal_of : Asked → Option Ending
refusal_of a = refusal_for (numbers_of a.words) a.unit a.size a.lent

-- The words give that geometry, and nothing refuses it.
pub record IsPlanned (a : Asked) (g : Geometry) : Type 0 where
  pub numbers : Numbers
  pub words_are : numbers_of a.words ≡ Some numbers
  pub geometry_is : IsOf g numbers.page numbers.block numbers.blocks numbers.block numbers.meta numbers.magic
  pub accepted : refusal_of a ≡ None
