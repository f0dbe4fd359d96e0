-- The words of the command.
use Rattle.std.specs.Prelude.{ℕ, List, length, Bool, not, ◌==◌, ◌&&◌, Option, None, if◌then◌else◌, codes}
use Rattle.tool_parts.specs.declared.words.Numbers.{Numbers}
use Rattle.tool_parts.specs.Words.{is_text, word_at, numbers_in}

-- There are seven words, of which the first is `trace`, and the one that names a chip isn't empty.
abbrev pub has_form : List (List ℕ) → Bool
has_form words = (length words == 7) && is_text (word_at words 0) (codes "trace") && not (length (word_at words 6) == 0)

-- the numbers of the volume that the words `trace PAGE BLOCK BLOCKS META MAGIC CHIP` give
abbrev pub numbers_of : List (List ℕ) → Option Numbers
numbers_of words = if has_form words then numbers_in words else None
