-- The words of the command.
use Rattle.std.specs.Prelude.{ℕ, List, [], length, Bool, not, ◌==◌, ◌&&◌, nat_eq, Option, Some, None, if◌then◌else◌, codes, unwrap_or, slice_get}
use Rattle.std.specs.Prelude.{option_and_then}
use Rattle.std.specs.Cmp.Lexicographic.{pointwise}
use Rattle.geometry.specs.declared.magic.MagicKind.{MagicKind}
use Rattle.geometry.specs.declared.magic.MagicKind.TheVariants.{Plain, Length}
use Rattle.call_script.specs.Numerals.{number_up_to}
use Rattle.plain_explain.specs.declared.shape.Shape.{Shape}

-- the word at a place, empty where there is none
abbrev pub word_at : List (List ℕ) → ℕ → List ℕ
word_at words i = unwrap_or (slice_get words i) []

-- a number below 2 ^ 32
abbrev pub number_word : List ℕ → Option ℕ
number_word word = number_up_to 4294967295 word

-- what the magic tells
abbrev pub magic_word : List ℕ → Option MagicKind
magic_word word =
    if pointwise nat_eq word (codes "plain") then Some Plain
    else if pointwise nat_eq word (codes "len") then Some Length
    else None

-- the words `PAGE BLOCK BLOCKS META MAGIC CHIP`, where CHIP is any word that isn't empty
abbrev pub is_form : List (List ℕ) → Bool
is_form words = (length words == 6) && not (length (word_at words 5) == 0)

-- the numbers that these words give
unfoldable pub shape_form : List (List ℕ) → Option Shape
shape_form words =
    if is_form words then
    option_and_then (λ page. option_and_then (λ block. option_and_then (λ blocks. option_and_then (λ meta. option_and_then (λ magic.
    Some (record { page = page; block = block; blocks = blocks; meta = meta; magic = magic }))
    (magic_word (word_at words 4))) (number_word (word_at words 3))) (number_word (word_at words 2))) (number_word (word_at words 1)))
    (number_word (word_at words 0))
    else None
