-- The words of a command that give the numbers of its volumes.
use Rattle.std.specs.Prelude.{ℕ, List, [], Bool, not, ◌*◌, ◌==◌, ◌||◌, nat_eq, nat_lt, Option, Some, None, if◌then◌else◌, codes, unwrap_or, slice_get}
use Rattle.std.specs.Prelude.{option_and_then}
use Rattle.std.specs.Int.{div_ceil}
use Rattle.std.specs.Cmp.Lexicographic.{pointwise}
use Rattle.geometry.specs.declared.magic.MagicKind.{MagicKind}
use Rattle.geometry.specs.declared.magic.MagicKind.TheVariants.{Plain, Length}
use Rattle.call_script.specs.Numerals.{number_up_to}
use Rattle.tool_parts.specs.declared.words.Numbers.{Numbers}

-- a word is this text
abbrev pub is_text : List ℕ → List ℕ → Bool
is_text word text = pointwise nat_eq word text

-- the word at a place, empty where there is none
abbrev pub word_at : List (List ℕ) → ℕ → List ℕ
word_at words i = unwrap_or (slice_get words i) []

-- a number below 2 ^ 32
abbrev pub number_word : List ℕ → Option ℕ
number_word word = number_up_to 4294967295 word

-- what the magic tells
abbrev pub magic_word : List ℕ → Option MagicKind
magic_word word =
    if is_text word (codes "plain") then Some Plain
    else if is_text word (codes "len") then Some Length
    else None

-- the numbers of a command's volumes, by their places
abbrev pub numbers_in : List (List ℕ) → Option Numbers
numbers_in words =
    option_and_then (λ page. option_and_then (λ block. option_and_then (λ blocks. option_and_then (λ meta. option_and_then (λ magic.
    Some (record { page = page; block = block; blocks = blocks; meta = meta; magic = magic }))
    (magic_word (word_at words 5))) (number_word (word_at words 4))) (number_word (word_at words 3))) (number_word (word_at words 2)))
    (number_word (word_at words 1))

-- the bytes of a block and the number of blocks, by their places, where they give a volume of some bytes, below 2 ^ 32
abbrev pub blocks_in : List (List ℕ) → Option (ℕ × ℕ)
blocks_in words =
    option_and_then (λ block. option_and_then (λ blocks.
    if (block * blocks == 0) || not (nat_lt (block * blocks) 4294967296) then None else Some (block, blocks))
    (number_word (word_at words 3))) (number_word (word_at words 2))

-- the erase unit of chips for these words, in bytes
abbrev pub unit_for : Option (ℕ × ℕ) → ℕ
unit_for None = 4096
unit_for (Some b) = b.0

-- the size in bytes of each of so many chips
abbrev pub chip_size_for : Option (ℕ × ℕ) → ℕ → ℕ
chip_size_for None number = 4096
chip_size_for (Some b) number = b.0 * div_ceil b.1 number
