-- The line that spells a call, in one form.
use Rattle.std.specs.Prelude.{ℕ, ℤ, pos, negsuc, suc, ◌<◌, ◌≤◌, List, [], ◌∷◌, ◌++◌, length, codes, decimal}
use Rattle.std.specs.Fmt.{signed_decimal}
use Rattle.table_model.specs.declared.call.Whence.{Whence}
use Rattle.table_model.specs.declared.call.Whence.TheVariants.{Set, Cur, End}
use Rattle.table_model.specs.Ask.{Ask, Creates, Opens, Reads, Writes, Fills, Seeks, Tells, Truncates, Flushes, Closes, Removes, RemovesOpen, Renames, Stats}
use Rattle.table_model.specs.Ask.{StatsOpen, NextAbove, Informs, Collects, SetsMeta, SetsMetaOpen}
use Rattle.call_script.specs.Texts.{printed, hex_pair}

-- numbers below 256
abbrev pub IsBytes : List ℕ → Type 0
IsBytes [] = Unit {0}
IsBytes (b ∷ bs) = (b < 256) × IsBytes bs

-- a name or a text that a line can spell: one or more bytes
abbrev pub IsText : List ℕ → Type 0
IsText bytes = (0 < length bytes) × IsBytes bytes

-- words of a line, with a space before each but the first
abbrev pub joined : List ℕ → List (List ℕ) → List ℕ
joined word [] = word
joined word (w ∷ ws) = word ++ 32 ∷ joined w ws

-- from where a seek counts, as a word
abbrev pub whence_word : Whence → List ℕ
whence_word Set = codes "set"
whence_word Cur = codes "cur"
whence_word End = codes "end"

-- the words behind the first of a line that spells a call
abbrev pub arguments : Ask → List (List ℕ)
arguments (Creates name) = printed name ∷ []
arguments (Opens name flags) = printed name ∷ decimal flags ∷ []
arguments (Reads fd count) = decimal fd ∷ decimal count ∷ []
arguments (Writes fd bytes) = decimal fd ∷ printed bytes ∷ []
arguments (Fills fd count byte) = decimal fd ∷ decimal count ∷ hex_pair byte ∷ []
arguments (Seeks fd offset from) = decimal fd ∷ signed_decimal offset ∷ whence_word from ∷ []
arguments (Tells fd) = decimal fd ∷ []
arguments (Truncates fd size) = decimal fd ∷ decimal size ∷ []
arguments (Flushes fd) = decimal fd ∷ []
arguments (Closes fd) = decimal fd ∷ []
arguments (Removes name) = printed name ∷ []
arguments (RemovesOpen fd) = decimal fd ∷ []
arguments (Renames old_name new_name) = printed old_name ∷ printed new_name ∷ []
arguments (Stats name) = printed name ∷ []
arguments (StatsOpen fd) = decimal fd ∷ []
arguments (NextAbove after) = decimal after ∷ []
arguments Informs = []
arguments Collects = []
arguments (SetsMeta name meta) = printed name ∷ printed meta ∷ []
arguments (SetsMetaOpen fd meta) = decimal fd ∷ printed meta ∷ []

-- the first word of a line that spells a call
abbrev pub verb_of : Ask → List ℕ
verb_of (Creates name) = codes "create"
verb_of (Opens name flags) = codes "open"
verb_of (Reads fd count) = codes "read"
verb_of (Writes fd bytes) = codes "write"
verb_of (Fills fd count byte) = codes "fill"
verb_of (Seeks fd offset from) = codes "seek"
verb_of (Tells fd) = codes "tell"
verb_of (Truncates fd size) = codes "truncate"
verb_of (Flushes fd) = codes "flush"
verb_of (Closes fd) = codes "close"
verb_of (Removes name) = codes "remove"
verb_of (RemovesOpen fd) = codes "fremove"
verb_of (Renames old_name new_name) = codes "rename"
verb_of (Stats name) = codes "stat"
verb_of (StatsOpen fd) = codes "fstat"
verb_of (NextAbove after) = codes "next"
verb_of Informs = codes "info"
verb_of Collects = codes "gc"
verb_of (SetsMeta name meta) = codes "meta"
verb_of (SetsMetaOpen fd meta) = codes "fmeta"

-- the line that spells a call
unfoldable pub spelling : Ask → List ℕ
spelling ask = joined (verb_of ask) (arguments ask)

-- an offset from -4,294,967,295 to 4,294,967,295
abbrev pub IsOffset : ℤ → Type 0
IsOffset (pos n) = n ≤ 4294967295
IsOffset (negsuc n) = suc n ≤ 4294967295

-- the names, texts and numbers of a call are those that a line can spell
abbrev pub IsInRange : Ask → Type 0
IsInRange (Creates name) = IsText name
IsInRange (Opens name flags) = IsText name × (flags ≤ 4294967295)
IsInRange (Reads fd count) = (fd ≤ 65535) × (count ≤ 1024)
IsInRange (Writes fd bytes) = (fd ≤ 65535) × IsText bytes
IsInRange (Fills fd count byte) = (fd ≤ 65535) × (count ≤ 4096) × (byte < 256)
IsInRange (Seeks fd offset from) = (fd ≤ 65535) × IsOffset offset
IsInRange (Tells fd) = fd ≤ 65535
IsInRange (Truncates fd size) = (fd ≤ 65535) × (size ≤ 4294967295)
IsInRange (Flushes fd) = fd ≤ 65535
IsInRange (Closes fd) = fd ≤ 65535
IsInRange (Removes name) = IsText name
IsInRange (RemovesOpen fd) = fd ≤ 65535
IsInRange (Renames old_name new_name) = IsText old_name × IsText new_name
IsInRange (Stats name) = IsText name
IsInRange (StatsOpen fd) = fd ≤ 65535
IsInRange (NextAbove after) = after ≤ 65535
IsInRange Informs = Unit {0}
IsInRange Collects = Unit {0}
IsInRange (SetsMeta name meta) = IsText name × IsText meta
IsInRange (SetsMetaOpen fd meta) = (fd ≤ 65535) × IsText meta
