-- What a line asks for.
use Rattle.std.specs.Prelude.{ℕ, ◌+◌, ◌-◌, List, [], ◌∷◌, length, slice_get, Bool, true, false, not, Option, Some, None, is_some, is_none, option_and_then}
use Rattle.std.specs.Prelude.{Result, Ok, Err, ◌==◌, ◌&&◌, ◌||◌, nat_le, if◌then◌else◌}
use Rattle.geometry.specs.declared.magic.MagicKind.{MagicKind}
use Rattle.front_words.specs.declared.word.Word.{Word}
use Rattle.front_words.specs.declared.word.Word.TheVariants.{Ls, Pack, Gen, Unpack, Fsck, Cat, Put, Rm, Mv, Df, Size, Picture}
use Rattle.front_words.specs.declared.word.Preset.{Preset}
use Rattle.front_words.specs.declared.option.Slot.{Slot}
use Rattle.front_words.specs.declared.option.Slot.TheVariants.{Page as PageSlot, Block as BlockSlot, Size as SizeSlot, Meta as MetaSlot, Magic as MagicSlot}
use Rattle.front_words.specs.declared.option.Slot.TheVariants.{At as AtSlot, Preset as PresetSlot, DryRun, Repair, Svg, Force, RawNames, Create, Unpack as UnpackSlot}
use Rattle.front_words.specs.declared.option.Slot.TheVariants.{List as ListSlot, Visualize, AllFiles, Debug, UseMagic, NameLength, NoMagic, BigEndian, Aligned}
use Rattle.front_words.specs.declared.option.Slot.TheVariants.{Links, NoValue, Unknown}
use Rattle.front_words.specs.declared.asked.Asked.{Asked}
use Rattle.front_words.specs.declared.asked.Act.{Act}
use Rattle.front_words.specs.declared.asked.Act.TheVariants.{ByOption, ByPlace, Several}
use Rattle.front_words.specs.declared.asked.Found.{Found}
use Rattle.front_words.specs.declared.asked.Refusal.{Refusal}
use Rattle.front_words.specs.declared.asked.Refusal.TheVariants.{NoWord, UnknownWord, TwoWords, Twice as GivenTwice, NotTaken, NotFor, BadValue, Places}
use Rattle.front_words.specs.Words.{word_named, preset_named, magic_named}
use Rattle.front_words.specs.Amounts.{amount}
use Rattle.front_words.specs.Options.{rank}
use Rattle.front_words.specs.Tokens.{Part, parts, places, texts, Held, Nothing, Once, Twice, held}

-- what is given for a slot
abbrev pub in_slot : Slot → List Part → Held
in_slot slot ps = held (texts (rank slot) ps)

-- anything is
abbrev pub is_something : Held → Bool
is_something Nothing = false
is_something (Once text) = true
is_something Twice = true

-- what a line gives for each slot
abbrev pub gifts : List Part → Slot → Held
gifts ps slot = in_slot slot ps

-- what the options of mkspiffs say: that of one, or nothing
abbrev pub act_of : (creates unpacks lists draws : Bool) → Act
act_of true false false false = ByOption Pack
act_of false true false false = ByOption Unpack
act_of false false true false = ByOption Ls
act_of false false false true = ByOption Picture
act_of false false false false = ByPlace
act_of true true lists draws = Several
act_of true false true draws = Several
act_of true false false true = Several
act_of false true true draws = Several
act_of false true false true = Several
act_of false false true true = Several

-- the word in the first place
abbrev pub named_word : Option Word → Result Found Refusal
named_word None = Err UnknownWord
named_word (Some word) = Ok (record { word = word; by_option = false })

abbrev pub placed_word : Option (List ℕ) → Result Found Refusal
placed_word None = Err NoWord
placed_word (Some text) = named_word (word_named text)

abbrev pub acted_word : Act → List (List ℕ) → Result Found Refusal
acted_word (ByOption word) ws = Ok (record { word = word; by_option = true })
acted_word ByPlace ws = placed_word (slice_get ws 0)
acted_word Several ws = Err TwoWords

-- what a line does
unfoldable pub word_found : (Slot → Held) → List (List ℕ) → Result Found Refusal
word_found gives ws =
    acted_word (act_of (is_something (gives Create)) (is_something (gives UnpackSlot)) (is_something (gives ListSlot)) (is_something (gives Visualize))) ws

-- the number that is given
abbrev pub number_held : Held → Option ℕ
number_held Nothing = None
number_held (Once text) = amount text
number_held Twice = None

abbrev pub magic_held : Held → Option MagicKind
magic_held Nothing = None
magic_held (Once text) = magic_named text
magic_held Twice = None

abbrev pub preset_held : Held → Option Preset
preset_held Nothing = None
preset_held (Once text) = preset_named text
preset_held Twice = None

-- a number that an option can have
abbrev pub is_amount : List ℕ → Bool
is_amount text = is_some (amount text)

abbrev pub is_number : (least most : ℕ) → Option ℕ → Bool
is_number least most None = false
is_number least most (Some n) = nat_le least n && nat_le n most

-- a value that an option can have
abbrev pub is_good : Slot → List ℕ → Bool
is_good PageSlot text = is_amount text
is_good BlockSlot text = is_amount text
is_good SizeSlot text = is_amount text
is_good MetaSlot text = is_amount text
is_good AtSlot text = is_amount text
is_good MagicSlot text = is_some (magic_named text)
is_good PresetSlot text = is_some (preset_named text)
is_good NameLength text = is_number 32 32 (amount text)
is_good Debug text = is_number 0 5 (amount text)
is_good _ text = true

-- an option that is never taken
abbrev pub is_refused : Slot → Bool
is_refused NoMagic = true
is_refused BigEndian = true
is_refused Aligned = true
is_refused Links = true
is_refused NoValue = true
is_refused Unknown = true
is_refused _ = false

-- a word that makes an image, or tells how large one would be
abbrev pub makes : Word → Bool
makes Pack = true
makes Gen = true
makes Size = true
makes _ = false

-- a word that changes the files of an image
abbrev pub changes : Word → Bool
changes Fsck = true
changes Put = true
changes Rm = true
changes Mv = true
changes _ = false

-- a word that another META stops: it changes files, or tells how full the volume is
abbrev pub is_guarded : Word → Bool
is_guarded Fsck = true
is_guarded Put = true
is_guarded Rm = true
is_guarded Mv = true
is_guarded Df = true
is_guarded _ = false

-- the size of the volume stands in no option
abbrev pub is_sized : Word → Bool
is_sized Gen = true
is_sized Size = true
is_sized _ = false

abbrev pub is_fsck : Word → Bool
is_fsck Fsck = true
is_fsck _ = false

abbrev pub is_picture : Word → Bool
is_picture Picture = true
is_picture _ = false

abbrev pub is_unpack : Word → Bool
is_unpack Unpack = true
is_unpack _ = false

-- an option means something for a word
abbrev pub means : Word → Slot → Bool
means word SizeSlot = not (is_sized word)
means word AtSlot = not (makes word)
means word Repair = is_fsck word
means word Svg = is_picture word
means word Force = is_guarded word
means word RawNames = is_unpack word
means word _ = true

-- what is wrong with what a line gives for a slot
abbrev pub fault_of : Word → Slot → Held → Option Refusal
fault_of word slot Nothing = None
fault_of word slot Twice = if is_refused slot then Some (NotTaken slot) else Some (GivenTwice slot)
fault_of word slot (Once text) =
    if is_refused slot then Some (NotTaken slot)
    else if not (means word slot) then Some (NotFor slot)
    else if is_good slot text then None
    else Some (BadValue slot)

-- all slots
abbrev pub all_slots : List Slot
all_slots = PageSlot ∷ BlockSlot ∷ SizeSlot ∷ MetaSlot ∷ MagicSlot ∷ AtSlot ∷ PresetSlot ∷ DryRun ∷ Repair ∷ Svg ∷ Force ∷ RawNames ∷ Create ∷ UnpackSlot ∷ ListSlot
    ∷ Visualize ∷ AllFiles ∷ Debug ∷ UseMagic ∷ NameLength ∷ NoMagic ∷ BigEndian ∷ Aligned ∷ Links ∷ NoValue ∷ Unknown ∷ []

-- the first of these faults
abbrev pub or_else : Option Refusal → Option Refusal → Option Refusal
or_else (Some why) other = Some why
or_else None other = other

abbrev pub first_fault : Word → (Slot → Held) → List Slot → Option Refusal
first_fault word gives [] = None
first_fault word gives (slot ∷ slots) = or_else (fault_of word slot (gives slot)) (first_fault word gives slots)

-- how many words at least and at most stand in their places, where one says what is done; None where there may be any number more
abbrev pub place_limit : Word → ℕ × Option ℕ
place_limit Ls = (2, Some 2)
place_limit Pack = (3, Some 3)
place_limit Gen = (4, Some 4)
place_limit Unpack = (3, Some 3)
place_limit Fsck = (2, Some 2)
place_limit Cat = (3, Some 3)
place_limit Put = (3, Some 4)
place_limit Rm = (3, None)
place_limit Mv = (4, Some 4)
place_limit Df = (2, Some 2)
place_limit Size = (2, Some 2)
place_limit Picture = (2, Some 2)

-- as many words stand in their places
abbrev pub is_within : List (List ℕ) → ℕ × Option ℕ → Bool
is_within ws (least, None) = is_some (slice_get ws (least - 1))
is_within ws (least, Some most) = is_some (slice_get ws (least - 1)) && is_none (slice_get ws most)

-- beside an option of mkspiffs the image alone does
abbrev pub limit_of : Found → ℕ × Option ℕ
limit_of found = if found.by_option then (1, Some 1) else place_limit found.word

abbrev pub has_places : Found → List (List ℕ) → Bool
has_places found ws = is_within ws (limit_of found)

-- the size of the volume: what stands behind `gen`, else what an option gives
abbrev pub second_number : List (List ℕ) → Option ℕ
second_number ws = option_and_then amount (slice_get ws 1)

abbrev pub size_in : Word → Held → List (List ℕ) → Option ℕ
size_in Gen gift ws = second_number ws
size_in _ gift ws = number_held gift

abbrev pub has_size : Word → List (List ℕ) → Bool
has_size Gen ws = is_some (second_number ws)
has_size _ ws = true

-- what a line without faults asks for
abbrev pub filled : Found → (Slot → Held) → List (List ℕ) → Asked
filled found gives ws = record {
  word = found.word;
  by_option = found.by_option;
  page = number_held (gives PageSlot);
  block = number_held (gives BlockSlot);
  size = size_in found.word (gives SizeSlot) ws;
  meta = number_held (gives MetaSlot);
  magic = magic_held (gives MagicSlot);
  at = number_held (gives AtSlot);
  preset = preset_held (gives PresetSlot);
  is_dry = is_something (gives DryRun);
  repairs = is_something (gives Repair);
  is_svg = is_something (gives Svg);
  is_forced = is_something (gives Force);
  raw_names = is_something (gives RawNames);
}

-- what a line asks for, by its first fault
abbrev pub after_fault : Option Refusal → Found → (Slot → Held) → List (List ℕ) → Result Asked Refusal
after_fault (Some why) found gives ws = Err why
after_fault None found gives ws =
    if not (has_places found ws) then Err (Places found.word)
    else if not (has_size found.word ws) then Err (BadValue SizeSlot)
    else Ok (filled found gives ws)

-- by what it does
abbrev pub after_word : Result Found Refusal → (Slot → Held) → List (List ℕ) → Result Asked Refusal
after_word (Err why) gives ws = Err why
after_word (Ok found) gives ws = after_fault (first_fault found.word gives all_slots) found gives ws

-- what a line asks for that gives this for each slot and has these words in their places, or why it is refused
unfoldable pub asked_from : (Slot → Held) → List (List ℕ) → Result Asked Refusal
asked_from gives ws = after_word (word_found gives ws) gives ws

-- what a line of these parts asks for
unfoldable pub asked_by : List Part → Result Asked Refusal
asked_by ps = asked_from (gifts ps) (places ps)
