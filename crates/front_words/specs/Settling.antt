-- The numbers of the volume that a line means.
use Rattle.std.specs.Prelude.{◌≡◌, ◌≤◌, ℕ, ◌+◌, ◌-◌, ◌*◌, ◌/◌, ◌%◌, ◌<◌, List, Contains, [], ◌∷◌, filter, Bool, true, false, not, Option, Some, None, is_none, option_map}
use Rattle.std.specs.Prelude.{unwrap_or, Result, Ok, Err, ◌==◌, ◌&&◌, ◌||◌, nat_le, nat_lt, if◌then◌else◌}
use Rattle.geometry.specs.declared.magic.MagicKind.{MagicKind}
use Rattle.std.specs.List.{list_all}
use Rattle.geometry.specs.declared.magic.MagicKind.TheVariants.{Plain, Length}
use Rattle.front_words.specs.declared.word.Preset.{Preset}
use Rattle.front_words.specs.declared.word.Preset.TheVariants.{EspIdf, ArduinoEsp32, Mkspiffs}
use Rattle.front_words.specs.declared.asked.Asked.{Asked}
use Rattle.front_words.specs.declared.settling.Candidate.{Candidate}
use Rattle.front_words.specs.declared.settling.Volume.{Volume}
use Rattle.front_words.specs.declared.settling.Unsettled.{Unsettled}
use Rattle.front_words.specs.declared.settling.Unsettled.TheVariants.{NoSize, Uneven, NoneFound, Several, AnyMeta, Spoiled, Doubled, Harmed, TooFar}
use Rattle.front_words.specs.declared.word.Word.{Word}
use Rattle.front_words.specs.declared.word.Word.TheVariants.{Fsck, Put, Rm, Mv}
use Rattle.front_words.specs.Asking.{makes, changes}

-- the first of two, where it is given
abbrev pub first_of : {A : Type 0} → Option A → Option A → Option A
first_of (Some a) other = Some a
first_of None other = other

-- whose numbers are meant: those that are named, of an image that is made else ESP-IDF's
abbrev pub preset_of : Asked → Option Preset
preset_of asked = first_of asked.preset (if makes asked.word then Some EspIdf else None)

-- meta bytes of a file
abbrev pub meta_by : Preset → ℕ
meta_by EspIdf = 4
meta_by ArduinoEsp32 = 4
meta_by Mkspiffs = 0

-- the numbers that are known without a look at the file: those that are given, else those of the preset
abbrev pub known_page : Asked → Option ℕ
known_page asked = first_of asked.page (option_map (λ p. 256) (preset_of asked))

abbrev pub known_block : Asked → Option ℕ
known_block asked = first_of asked.block (option_map (λ p. 4096) (preset_of asked))

abbrev pub known_meta : Asked → Option ℕ
known_meta asked = first_of asked.meta (option_map meta_by (preset_of asked))

abbrev pub known_magic : Asked → Option MagicKind
known_magic asked = first_of asked.magic (option_map (λ p. Length) (preset_of asked))

-- the byte at which the volume begins
abbrev pub start_of : Asked → ℕ
start_of asked = unwrap_or asked.at 0

-- the bytes of the volume: those that are given, else those that the file has from there on
abbrev pub bytes_of : Asked → (length : ℕ) → ℕ
bytes_of asked length = unwrap_or asked.size (length - start_of asked)

-- a volume of so many bytes, where they are some whole blocks
abbrev pub sized : Asked → (bytes page block meta : ℕ) → MagicKind → Result Volume Unsettled
sized asked bytes page block meta magic =
    if (bytes == 0) || not (nat_le bytes 4294967295) then Err NoSize
    else if (block == 0) || not (bytes % block == 0) then Err (Uneven bytes block)
    else Ok (record { at = start_of asked; page = page; block = block; blocks = bytes / block; meta = meta; magic = magic })

-- a number is as it is given, if it is
abbrev pub fits : Option ℕ → ℕ → Bool
fits None n = true
fits (Some given) n = given == n

abbrev pub same_magic : MagicKind → MagicKind → Bool
same_magic Plain Plain = true
same_magic Length Length = true
same_magic Plain Length = false
same_magic Length Plain = false

abbrev pub fits_magic : Option MagicKind → MagicKind → Bool
fits_magic None kind = true
fits_magic (Some given) kind = same_magic given kind

-- a volume that was found is as far as numbers are known the one that is meant
abbrev pub agrees : Asked → Candidate → Bool
agrees asked c = fits asked.at c.at && (fits (known_page asked) c.page
    && (fits (known_block asked) c.block && (fits asked.size (c.block * c.blocks) && fits_magic (known_magic asked) c.magic)))

-- one of the volumes that were found, by its least number of meta bytes that reads most, if none is known
abbrev pub found_volume : Candidate → (meta : ℕ) → Volume
found_volume c meta = record { at = c.at; page = c.page; block = c.block; blocks = c.blocks; meta = meta; magic = c.magic }

abbrev pub with_meta : Asked → Candidate → Option ℕ → Result Volume Unsettled
with_meta asked c (Some meta) = Ok (found_volume c meta)
with_meta asked c None = if changes asked.word && not (c.first_meta == c.last_meta) then Err AnyMeta else Ok (found_volume c c.first_meta)

-- two of them read as many whole files and as few damaged ones
abbrev pub as_good : Candidate → Candidate → Bool
as_good c d = (c.whole == d.whole) && (c.damaged == d.damaged)

-- two that were found are the same
abbrev pub same_numbers : Candidate → Candidate → Bool
same_numbers c d = (c.at == d.at) && (c.page == d.page) && (c.block == d.block) && (c.blocks == d.blocks) && fits_magic (Some c.magic) d.magic

-- one lies within the bytes of another, lacks as many magics or more, and reads no more whole files
abbrev pub lies_in : Candidate → Candidate → Bool
lies_in d c = nat_le c.at d.at && nat_le (d.at + d.block * d.blocks) (c.at + c.block * c.blocks) && nat_le c.spoiled d.spoiled && nat_le d.whole c.whole

-- two have no byte in common
abbrev pub lies_apart : Candidate → Candidate → Bool
lies_apart d c = nat_le (c.at + c.block * c.blocks) d.at || nat_le (d.at + d.block * d.blocks) c.at

-- `c` reads whole files, and `d` none. (An empty volume that lies apart and has all its magics may be meant all the same.)
abbrev pub reads_none : Candidate → Candidate → Bool
reads_none d c = nat_lt 0 c.whole && (d.whole == 0) && not (lies_apart d c && (d.spoiled == 0))

-- They share bytes, `c` reads more whole files and no damaged one, and `d` some.
abbrev pub reads_worse : Candidate → Candidate → Bool
reads_worse d c = (c.damaged == 0) && nat_lt 0 d.damaged && nat_lt d.whole c.whole && not (lies_apart d c)

-- Both have the same bytes and read as much, and the blocks of `d` are longer: of a `plain` row every other magic is read then.
abbrev pub is_coarser : Candidate → Candidate → Bool
is_coarser d c = nat_lt c.block d.block && (c.page == d.page) && fits_magic (Some c.magic) d.magic && lies_in c d && lies_in d c

-- Another one leaves no doubt of `c`: it reads no whole file, or fewer and damaged ones, where `c` reads more; it lies within `c`, and that not
-- within it; or its blocks are longer.
abbrev pub no_rival : (c d : Candidate) → Bool
no_rival c d = same_numbers c d || reads_none d c || reads_worse d c || (lies_in d c && not (lies_in c d)) || is_coarser d c

-- a line writes to the image: a check only where it is to mend it
abbrev pub writes : Word → (repairs : Bool) → Bool
writes Put repairs = true
writes Rm repairs = true
writes Mv repairs = true
writes Fsck repairs = repairs
writes _ repairs = false

-- a word changes files, and removes the damaged ones before; a check is there to remove them, and tells them itself
abbrev pub edits : Word → Bool
edits Put = true
edits Rm = true
edits Mv = true
edits _ = false

-- ids are damaged, and nothing says that they may be removed
abbrev pub is_harmed : Asked → Candidate → Bool
is_harmed asked c = (edits asked.word && not asked.is_forced) && nat_lt 0 c.damaged

-- How many ids of a volume may have two live header pages: one may be left so by a power cut. A `plain` row doesn't tell its own end, and one such
-- id may be a file of each of two volumes.
abbrev pub most_doubled : MagicKind → ℕ
most_doubled Plain = 0
most_doubled Length = 1

-- more have, so two volumes may stand end to end
abbrev pub is_doubled : Candidate → Bool
is_doubled c = nat_lt (most_doubled c.magic) c.doubled

-- it may be two, and nothing says that it may be written all the same
abbrev pub may_be_two : Asked → Candidate → Bool
may_be_two asked c = not asked.is_forced && is_doubled c

-- One that a line would change: not where it may be two, nor where two or more of its blocks lack their magic, nor while ids are damaged.
abbrev pub unless_harmed : Asked → Candidate → Result Volume Unsettled
unless_harmed asked c =
    if may_be_two asked c then Err (Doubled c.doubled)
    else if nat_le 2 c.spoiled then Err (Spoiled c.spoiled)
    else if is_harmed asked c then Err (Harmed c.damaged)
    else with_meta asked c (known_meta asked)

-- why none is sure
abbrev pub none_sure : List Candidate → Result Volume Unsettled
none_sure [] = Err NoneFound
none_sure (c ∷ rest) = Err Several

-- the first of some of which none of all leaves doubt
abbrev pub alone_in : (all left : List Candidate) → Option Candidate
alone_in all [] = None
alone_in all (c ∷ rest) = if list_all (no_rival c) all then Some c else alone_in all rest

-- the one of those that agree that a line may write to
abbrev pub sure_by : Asked → List Candidate → Option Candidate → Result Volume Unsettled
sure_by asked all None = none_sure all
sure_by asked all (Some c) = unless_harmed asked c

abbrev pub sure : Asked → List Candidate → Result Volume Unsettled
sure asked all = sure_by asked all (alone_in all all)

-- the one that is read where the best two read as much: that of which none leaves doubt
abbrev pub chosen_by : Asked → Option Candidate → Result Volume Unsettled
chosen_by asked None = Err Several
chosen_by asked (Some c) = with_meta asked c (known_meta asked)

-- the best of several, the best first
abbrev pub chosen : Asked → List Candidate → Result Volume Unsettled
chosen asked [] = Err NoneFound
chosen asked (c ∷ []) = with_meta asked c (known_meta asked)
chosen asked (c ∷ d ∷ rest) =
    if as_good c d then chosen_by asked (alone_in (c ∷ d ∷ rest) (c ∷ d ∷ rest)) else with_meta asked c (known_meta asked)

-- the one that a line means: one that it writes to has to be sure
abbrev pub told_volume : Asked → List Candidate → Result Volume Unsettled
told_volume asked found = if writes asked.word asked.repairs then sure asked found else chosen asked found

-- those that agree
abbrev pub agreeing : Asked → List Candidate → List Candidate
agreeing asked found = filter (agrees asked) found

-- by the numbers that are known, if all are, else by the volumes that were found in the file
abbrev pub settled_by : Asked → (length : ℕ) → List Candidate → (page block meta : Option ℕ) → Option MagicKind → Result Volume Unsettled
settled_by asked length found (Some page) (Some block) (Some meta) (Some magic) = sized asked (bytes_of asked length) page block meta magic
settled_by asked length found (Some page) (Some block) (Some meta) None = told_volume asked (agreeing asked found)
settled_by asked length found (Some page) (Some block) None magic = told_volume asked (agreeing asked found)
settled_by asked length found (Some page) None meta magic = told_volume asked (agreeing asked found)
settled_by asked length found None block meta magic = told_volume asked (agreeing asked found)

-- the byte of the file behind the last one of a volume
abbrev pub end_of : Volume → ℕ
end_of v = v.at + v.block * v.blocks

-- a volume that ends in reach: of a file the first 2 ^ 32 - 1 bytes are reached
abbrev pub reached : Result Volume Unsettled → Result Volume Unsettled
reached (Err why) = Err why
reached (Ok v) = if nat_le (end_of v) 4294967295 then Ok v else Err (TooFar v.at (end_of v))

-- the volume that a line means, in a file of so many bytes
unfoldable pub settled : Asked → (length : ℕ) → List Candidate → Result Volume Unsettled
settled asked length found =
    reached (settled_by asked length found (known_page asked) (known_block asked) (known_meta asked) (known_magic asked))

-- the volumes that were found are asked
abbrev pub needs_found : Asked → Bool
needs_found asked = is_none (known_page asked) || (is_none (known_block asked) || (is_none (known_meta asked) || is_none (known_magic asked)))

-- a number is the one that is given, if one is
abbrev pub IsAsGiven : {A : Type 0} → Option A → A → Type 0
IsAsGiven None is = Unit {0}
IsAsGiven (Some given) is = given ≡ is

-- the numbers of a volume are those that a line gives
pub record KeepsNumbers (asked : Asked) (v : Volume) : Type 0 where
  pub page : IsAsGiven asked.page v.page
  pub block : IsAsGiven asked.block v.block
  pub meta : IsAsGiven asked.meta v.meta
  pub magic : IsAsGiven asked.magic v.magic
  pub at : IsAsGiven asked.at v.at
  pub size : IsAsGiven asked.size (v.block * v.blocks)

-- Of all that were found and agree, no other leaves doubt of `c`; no more of its ids have two live header pages than may, or `--force` is given; at
-- most one of its blocks lacks its magic; no id is damaged, or that is no matter for the line; and the volume has its numbers.
pub record IsSafe (asked : Asked) (all : List Candidate) (c : Candidate) (v : Volume) : Type 0 where
  pub alone : list_all (no_rival c) all ≡ true
  pub marked : c.spoiled < 2
  pub apart : asked.is_forced ≡ false → c.doubled ≤ most_doubled c.magic
  pub whole : edits asked.word ≡ true → asked.is_forced ≡ false → c.damaged ≡ 0
  pub taken : v ≡ found_volume c v.meta

-- a volume is one that a line may write to
abbrev pub MayBeWritten : Asked → List Candidate → Volume → Type 0
MayBeWritten asked all v = (c : Candidate) × Contains all c × IsSafe asked all c v
