-- The words of a copy.
use Rattle.std.specs.Prelude.{ℕ, List, length, drop, Bool, not, ◌==◌, ◌&&◌, Option, Some, None, if◌then◌else◌, codes, option_and_then}
use Rattle.tool_parts.specs.Words.{is_text, word_at, numbers_in}
use Rattle.copy_tool.specs.declared.words.CopyForm.{CopyForm}

-- There are thirteen words, the first is the command's name, and those that name chips aren't empty.
abbrev pub is_copy : List (List ℕ) → Bool
is_copy words = (length words == 13) && is_text (word_at words 0) (codes "copy") && not (length (word_at words 6) == 0) && not (length (word_at words 12) == 0)

-- The numbers of the source and of the target, which stand behind the source's chip as the source's behind the command's name. Each CHIP is any
-- word that isn't empty.
unfoldable pub copy_form_of : List (List ℕ) → Option CopyForm
copy_form_of words =
    if is_copy words then option_and_then
    (λ source. option_and_then (λ target. Some (record { source = source; target = target })) (numbers_in (drop 6 words))) (numbers_in words)
    else None
