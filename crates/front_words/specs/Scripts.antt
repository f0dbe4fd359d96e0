-- The lines of scripts that words of the front mean, and the words of the top call.
use Rattle.std.specs.Prelude.{ℕ, ◌+◌, ◌-◌, List, [], ◌∷◌, ◌++◌, Bool, not, ◌&&◌, codes, decimal, nat_lt, if◌then◌else◌}
use Rattle.geometry.specs.declared.magic.MagicKind.{MagicKind}
use Rattle.geometry.specs.declared.magic.MagicKind.TheVariants.{Plain, Length}
use Rattle.table_model.specs.Ask.{Ask}
use Rattle.table_model.specs.Names.{is_bad_name}
use Rattle.call_script.specs.Lines.{is_text}
use Rattle.call_script.specs.Printing.{spelling}
use Rattle.front_words.specs.declared.word.Word.{Word}
use Rattle.front_words.specs.declared.word.Word.TheVariants.{Ls, Pack, Gen, Unpack, Fsck, Cat, Put, Rm, Mv, Df, Size, Picture}
use Rattle.front_words.specs.declared.settling.Volume.{Volume}

-- the line of a script that spells a call
abbrev pub line_of : Ask → List ℕ
line_of ask = spelling ask ++ 10 ∷ []

-- a byte with its top bit turned
abbrev pub turned : ℕ → ℕ
turned b = if nat_lt b 128 then b + 128 else b - 128

-- the name under which the file of a name waits, whole, until it takes that name's place
abbrev pub working : List ℕ → List ℕ
working [] = []
working (b ∷ bs) = turned b ∷ bs

-- the name of a file that is being written
abbrev pub scratch : List ℕ
scratch = 1 ∷ []

-- a name that a file can have beside one that is being written
unfoldable pub is_free : List ℕ → Bool
is_free name = not (is_bad_name name) && not (is_text name scratch)

-- a file can be put under a name: both it and its working name are such
unfoldable pub can_put : List ℕ → Bool
can_put name = is_free name && is_free (working name)

-- the command of the top call that does what a word asks
abbrev pub command_of : Word → List ℕ
command_of Ls = codes "list"
command_of Pack = codes "make"
command_of Gen = codes "make"
command_of Unpack = codes "extract"
command_of Fsck = codes "check"
command_of Cat = codes "list"
command_of Put = codes "run"
command_of Rm = codes "run"
command_of Mv = codes "run"
command_of Df = codes "run"
command_of Size = codes "size"
command_of Picture = codes "picture"

-- what the magic tells, as a word of the top call
abbrev pub magic_text : MagicKind → List ℕ
magic_text Plain = codes "plain"
magic_text Length = codes "len"

-- a line of the top call, but for what stands behind the chip's name
abbrev pub top_line : Word → Volume → (chip : List ℕ) → List (List ℕ)
top_line word v chip = command_of word ∷ decimal v.page ∷ decimal v.block ∷ decimal v.blocks ∷ decimal v.meta ∷ magic_text v.magic ∷ chip ∷ []
