-- The words of a command.
use Rattle.std.specs.Prelude.{ℕ, ◌≤◌, List, length, Bool, true, false, not, ◌==◌, ◌&&◌, Option, Some, None, if◌then◌else◌, codes, option_and_then}
use Rattle.call_script.specs.Numerals.{number_up_to}
use Rattle.tool_parts.specs.declared.words.Numbers.{Numbers}
use Rattle.tool_parts.specs.Words.{is_text, word_at, numbers_in}
use Rattle.tool_core.specs.declared.words.Verb.{Verb}
use Rattle.tool_core.specs.declared.words.Verb.TheVariants.{Run, List as Lists, Check, Extract, Make, Soak, Scrub, Map}
use Rattle.tool_core.specs.declared.words.Form.{Form}

-- a number below 2 ^ 64
abbrev pub seed_word : List ℕ → Option ℕ
seed_word word = number_up_to 18446744073709551615 word

-- a number of turns, at most 1,000,000
abbrev pub turns_word : List ℕ → Option ℕ
turns_word word = number_up_to 1000000 word

-- the soak of the seed and the number of turns behind the chip's name
abbrev pub soak_in : List (List ℕ) → Option Verb
soak_in words = option_and_then (λ seed. option_and_then (λ turns. Some (Soak seed turns)) (turns_word (word_at words 8))) (seed_word (word_at words 7))

-- a limit of a scrub, from 1 to 32,767
abbrev pub limit_word : List ℕ → Option ℕ
limit_word word = option_and_then (λ limit. if limit == 0 then None else Some limit) (number_up_to 32767 word)

-- the scrub with the limit behind the chip's name
abbrev pub limit_in : List (List ℕ) → Option Verb
limit_in words = option_and_then (λ limit. Some (Scrub limit)) (limit_word (word_at words 7))

-- an id, below 65,536
abbrev pub id_word : List ℕ → Option ℕ
id_word word = number_up_to 65535 word

-- the map of the file with the id behind the chip's name
abbrev pub map_in : List (List ℕ) → Option Verb
map_in words = option_and_then (λ id. Some (Map id)) (id_word (word_at words 7))

-- what a command does, by its first word, and for a soak, a scrub and a map by those behind the chip's name
abbrev pub verb_in : List (List ℕ) → Option Verb
verb_in words =
    if is_text (word_at words 0) (codes "run") then Some Run
    else if is_text (word_at words 0) (codes "list") then Some Lists
    else if is_text (word_at words 0) (codes "check") then Some Check
    else if is_text (word_at words 0) (codes "extract") then Some Extract
    else if is_text (word_at words 0) (codes "make") then Some Make
    else if is_text (word_at words 0) (codes "soak") then soak_in words
    else if is_text (word_at words 0) (codes "scrub") then limit_in words
    else if is_text (word_at words 0) (codes "map") then map_in words
    else None

-- a command writes its volume
abbrev pub writes : Verb → Bool
writes Run = true
writes Lists = false
writes Check = true
writes Extract = false
writes Make = true
writes (Soak seed turns) = true
writes (Scrub limit) = true
writes (Map id) = true

-- the limit of a scrub is 1 to 32,767
abbrev pub HasLimit : Verb → Type 0
HasLimit (Scrub limit) = (1 ≤ limit) × (limit ≤ 32767)
HasLimit _ = Unit {0}

-- a command takes a script
abbrev pub has_script : Verb → Bool
has_script Run = true
has_script _ = false

-- a command has a folder
abbrev pub has_folder : Verb → Bool
has_folder Extract = true
has_folder Make = true
has_folder _ = false

-- how many words spell a command: VERB PAGE BLOCK BLOCKS META MAGIC CHIP, then FOLDER, or SEED and COUNT, or LIMIT, or ID
abbrev pub word_count : Verb → ℕ
word_count Extract = 8
word_count Make = 8
word_count (Soak seed turns) = 9
word_count (Scrub limit) = 8
word_count (Map id) = 8
word_count _ = 7

-- There are as many words as the command has, and those that name a chip and a folder aren't empty.
abbrev pub has_form : Verb → List (List ℕ) → Bool
has_form verb words =
    (length words == word_count verb) && not (length (word_at words 6) == 0) && not (has_folder verb && (length (word_at words 7) == 0))

-- a command with its numbers, where there are some
abbrev pub with_numbers : Verb → Option Numbers → Option Form
with_numbers verb numbers = option_and_then (λ n. Some (record { verb = verb; numbers = n })) numbers

-- what the words of a command give, in which CHIP and FOLDER are any words that aren't empty
unfoldable pub form_of : List (List ℕ) → Option Form
form_of words = option_and_then (λ verb. if has_form verb words then with_numbers verb (numbers_in words) else None) (verb_in words)
