-- The grammar of a script: its lines, and the call that each of them spells.
use Rattle.std.specs.Prelude.{◌≡◌, ◌<◌, slice_index, ℕ, Bool, List, [], ◌∷◌, length, codes, Option, Some, None, Result, Ok, Err, ◌==◌, ◌≤◌, nat_lt}
use Rattle.std.specs.Prelude.{if◌then◌else◌}
use Rattle.std.specs.Str.{bytes_eq}
use Rattle.table_model.specs.Ask.{Ask, Creates, Opens, Reads, Writes, Fills, Seeks, Tells, Truncates, Flushes, Closes, Removes, RemovesOpen, Renames, Stats}
use Rattle.table_model.specs.Ask.{StatsOpen, NextAbove, Informs, Collects, SetsMeta, SetsMetaOpen, asked}
use Rattle.table_model.specs.declared.call.Call.{Call}
use Rattle.table_model.specs.declared.call.Whence.{Whence}
use Rattle.table_model.specs.declared.call.Whence.TheVariants.{Set, Cur, End}
use Rattle.call_script.specs.declared.line.BadLine.{BadLine}
use Rattle.call_script.specs.Numerals.{number_up_to, signed_up_to}
use Rattle.call_script.specs.Texts.{text_of, hex_byte_of}

-- what a line is: no call, one call, or outside the grammar
pub data Parsed : Type 0 where
  NoCall : Parsed
  Asks : (ask : Ask) → Parsed
  Bad : Parsed

-- a byte before the first of several texts
abbrev pub onto : ℕ → List (List ℕ) → List (List ℕ)
onto b [] = (b ∷ []) ∷ []
onto b (w ∷ ws) = (b ∷ w) ∷ ws

-- the words of a line, parted by single spaces: one more than there are spaces
unfoldable pub words : List ℕ → List (List ℕ)
words [] = [] ∷ []
words (b ∷ bs) = if b == 32 then [] ∷ words bs else onto b (words bs)

-- a word is that text
unfoldable pub is_text : List ℕ → List ℕ → Bool
is_text word text = bytes_eq word text

-- a call of one thing, where it is spelled
abbrev pub one : {A : Type 0} → (A → Ask) → Option A → Option Ask
one make None = None
one make (Some a) = Some (make a)

-- a call of two things, where both are spelled
abbrev pub both : {A B : Type 0} → (A → B → Ask) → Option A → Option B → Option Ask
both make None b = None
both make (Some a) None = None
both make (Some a) (Some b) = Some (make a b)

-- a call of three things, where all are spelled
abbrev pub all_three : {A B C : Type 0} → (A → B → C → Ask) → Option A → Option B → Option C → Option Ask
all_three make None b c = None
all_three make (Some a) b c = both (make a) b c

-- a descriptor or an id: a number up to 65,535
abbrev pub short_of : List ℕ → Option ℕ
short_of word = number_up_to 65535 word

-- flags or a size: a number up to 4,294,967,295
abbrev pub long_of : List ℕ → Option ℕ
long_of word = number_up_to 4294967295 word

-- from where a seek counts
abbrev pub whence_of : List ℕ → Option Whence
whence_of word =
    if is_text word (codes "set") then Some Set
    else if is_text word (codes "cur") then Some Cur
    else if is_text word (codes "end") then Some End
    else None

-- the call of a line of one word
abbrev pub alone : List ℕ → Option Ask
alone verb =
    if is_text verb (codes "info") then Some Informs
    else if is_text verb (codes "gc") then Some Collects
    else None

-- the call of a line of a word and a name, a descriptor or an id
abbrev pub with_one : List ℕ → List ℕ → Option Ask
with_one verb a =
    if is_text verb (codes "create") then one Creates (text_of a)
    else if is_text verb (codes "tell") then one Tells (short_of a)
    else if is_text verb (codes "flush") then one Flushes (short_of a)
    else if is_text verb (codes "close") then one Closes (short_of a)
    else if is_text verb (codes "remove") then one Removes (text_of a)
    else if is_text verb (codes "fremove") then one RemovesOpen (short_of a)
    else if is_text verb (codes "stat") then one Stats (text_of a)
    else if is_text verb (codes "fstat") then one StatsOpen (short_of a)
    else if is_text verb (codes "next") then one NextAbove (short_of a)
    else None

-- the call of a line of a word and two more
abbrev pub with_two : List ℕ → List ℕ → List ℕ → Option Ask
with_two verb a b =
    if is_text verb (codes "open") then both Opens (text_of a) (long_of b)
    else if is_text verb (codes "read") then both Reads (short_of a) (number_up_to 1024 b)
    else if is_text verb (codes "write") then both Writes (short_of a) (text_of b)
    else if is_text verb (codes "truncate") then both Truncates (short_of a) (long_of b)
    else if is_text verb (codes "rename") then both Renames (text_of a) (text_of b)
    else if is_text verb (codes "meta") then both SetsMeta (text_of a) (text_of b)
    else if is_text verb (codes "fmeta") then both SetsMetaOpen (short_of a) (text_of b)
    else None

-- the call of a line of a word and three more
abbrev pub with_three : List ℕ → List ℕ → List ℕ → List ℕ → Option Ask
with_three verb a b c =
    if is_text verb (codes "fill") then all_three Fills (short_of a) (number_up_to 4096 b) (hex_byte_of c)
    else if is_text verb (codes "seek") then all_three Seeks (short_of a) (signed_up_to 4294967295 b) (whence_of c)
    else None

-- the call that words spell
unfoldable pub spelled : List (List ℕ) → Option Ask
spelled [] = None
spelled (verb ∷ []) = alone verb
spelled (verb ∷ a ∷ []) = with_one verb a
spelled (verb ∷ a ∷ b ∷ []) = with_two verb a b
spelled (verb ∷ a ∷ b ∷ c ∷ []) = with_three verb a b c
spelled (verb ∷ a ∷ b ∷ c ∷ d ∷ more) = None

-- a call, or no line of the grammar
abbrev pub call_or_bad : Option Ask → Parsed
call_or_bad None = Bad
call_or_bad (Some ask) = Asks ask

-- what a line is, but for its length: an empty one and one that begins with `#` are no call
unfoldable pub parsed : List ℕ → Parsed
parsed [] = NoCall
parsed (b ∷ bs) = if b == 35 then NoCall else call_or_bad (spelled (words (b ∷ bs)))

-- what a line is; it has 4,096 bytes at most
unfoldable pub of_line : List ℕ → Parsed
of_line line = if nat_lt 4096 (length line) then Bad else parsed line

-- what the reader of a line answers
abbrev pub outcome : Result (Option Call) BadLine → Parsed
outcome (Ok None) = NoCall
outcome (Ok (Some call)) = Asks (asked call)
outcome (Err e) = Bad

-- The counts of a line are in range: a read asks for 1,024 bytes at most, a fill for 4,096.
abbrev pub IsCounted : Parsed → Type 0
IsCounted (Asks (Reads fd count)) = count ≤ 1024
IsCounted (Asks (Fills fd count byte)) = count ≤ 4096
IsCounted _ = Unit {0}

-- the lines of a script: each ends with byte 10, and a last one without it counts where it isn't empty
unfoldable pub lines : List ℕ → List (List ℕ)
lines [] = []
lines (b ∷ bs) = if b == 10 then [] ∷ lines bs else onto b (lines bs)

-- a line before the calls of the lines behind it
abbrev pub with_line : Parsed → List Ask → List Ask
with_line NoCall asks = asks
with_line (Asks ask) asks = ask ∷ asks
with_line Bad asks = []

-- the calls of lines, up to the first that is outside the grammar
unfoldable pub calls_of : List (List ℕ) → List Ask
calls_of [] = []
calls_of (line ∷ ls) = with_line (of_line line) (calls_of ls)

-- the calls of a script
abbrev pub calls : List ℕ → List Ask
calls script = calls_of (lines script)

-- no byte 10
pub record NoBreak (bytes : List ℕ) : Type 0 where
  pub none : (k : ℕ) → k < length bytes → slice_index bytes k ≡ 10 → ⊥
