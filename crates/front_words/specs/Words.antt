-- The words of a line that say what it does.
use Rattle.std.specs.Prelude.{List, [], ◌∷◌, ℕ, Bool, true, ◌||◌, Option, Some, None, codes, if◌then◌else◌}
use Rattle.geometry.specs.declared.magic.MagicKind.{MagicKind}
use Rattle.geometry.specs.declared.magic.MagicKind.TheVariants.{Plain, Length}
use Rattle.call_script.specs.Lines.{is_text}
use Rattle.front_words.specs.declared.word.Word.{Word}
use Rattle.front_words.specs.declared.word.Word.TheVariants.{Ls, Pack, Gen, Unpack, Fsck, Cat, Put, Rm, Mv, Df, Size, Picture}
use Rattle.front_words.specs.declared.word.Preset.{Preset}
use Rattle.front_words.specs.declared.word.Preset.TheVariants.{EspIdf, ArduinoEsp32, Mkspiffs}

-- a command of the top call, or one of its options
abbrev pub is_own_word : List ℕ → Bool
is_own_word w =
    is_text w (codes "run") || (is_text w (codes "list") || (is_text w (codes "check") || (is_text w (codes "extract")
    || (is_text w (codes "make") || (is_text w (codes "soak") || (is_text w (codes "scrub") || (is_text w (codes "map")
    || (is_text w (codes "copy") || (is_text w (codes "detect") || (is_text w (codes "trace") || (is_text w (codes "rehearse")
    || (is_text w (codes "--force") || (is_text w (codes "--help") || is_text w (codes "--version"))))))))))))))

-- these words are meant as themselves
abbrev pub is_own : List (List ℕ) → Bool
is_own [] = true
is_own (w ∷ ws) = is_own_word w

-- the word of a text
abbrev pub word_named : List ℕ → Option Word
word_named w =
    if is_text w (codes "ls") then Some Ls
    else if is_text w (codes "pack") then Some Pack
    else if is_text w (codes "gen") then Some Gen
    else if is_text w (codes "unpack") then Some Unpack
    else if is_text w (codes "fsck") then Some Fsck
    else if is_text w (codes "cat") then Some Cat
    else if is_text w (codes "put") then Some Put
    else if is_text w (codes "rm") then Some Rm
    else if is_text w (codes "mv") then Some Mv
    else if is_text w (codes "df") then Some Df
    else if is_text w (codes "size") then Some Size
    else if is_text w (codes "picture") then Some Picture
    else None

-- the preset of a text
abbrev pub preset_named : List ℕ → Option Preset
preset_named w =
    if is_text w (codes "esp-idf") then Some EspIdf
    else if is_text w (codes "arduino-esp32") then Some ArduinoEsp32
    else if is_text w (codes "mkspiffs") then Some Mkspiffs
    else None

-- the kind of magic of a text
abbrev pub magic_named : List ℕ → Option MagicKind
magic_named w =
    if is_text w (codes "len") then Some Length
    else if is_text w (codes "plain") then Some Plain
    else None
