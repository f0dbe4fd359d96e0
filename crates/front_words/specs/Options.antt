-- Options, by their names.
use Rattle.std.specs.Prelude.{List, ℕ, Bool, ◌||◌, Option, Some, None, codes, if◌then◌else◌}
use Rattle.std.specs.Option.{option_or}
use Rattle.call_script.specs.Lines.{is_text}
use Rattle.front_words.specs.declared.option.Slot.{Slot}
use Rattle.front_words.specs.declared.option.Slot.TheVariants.{Page, Block, Size, Meta, Magic, At, Preset, DryRun, Repair, Svg, Force, RawNames, Create, Unpack}
use Rattle.front_words.specs.declared.option.Slot.TheVariants.{List as Lists, Visualize, AllFiles, Debug, UseMagic, NameLength, NoMagic, BigEndian, Aligned}
use Rattle.front_words.specs.declared.option.Slot.TheVariants.{Links, NoValue, Unknown}

-- its place in the list of what options give
abbrev pub rank : Slot → ℕ
rank Page = 0
rank Block = 1
rank Size = 2
rank Meta = 3
rank Magic = 4
rank At = 5
rank Preset = 6
rank DryRun = 7
rank Repair = 8
rank Svg = 9
rank Force = 10
rank Create = 11
rank Unpack = 12
rank Lists = 13
rank Visualize = 14
rank AllFiles = 15
rank Debug = 16
rank UseMagic = 17
rank NameLength = 18
rank NoMagic = 19
rank BigEndian = 20
rank Aligned = 21
rank Links = 22
rank NoValue = 23
rank Unknown = 24
rank RawNames = 25

-- a word is one of two texts
abbrev pub is_either : List ℕ → List ℕ → List ℕ → Bool
is_either word one other = is_text word one || is_text word other

-- what an option with a value gives, but for those of spiffsgen.py alone
unfoldable pub plain_valued : List ℕ → Option Slot
plain_valued name =
    if is_either name (codes "-p") (codes "--page") then Some Page
    else if is_either name (codes "-b") (codes "--block") then Some Block
    else if is_either name (codes "-s") (codes "--size") then Some Size
    else if is_text name (codes "--meta") then Some Meta
    else if is_text name (codes "--magic") then Some Magic
    else if is_text name (codes "--at") then Some At
    else if is_text name (codes "--for") then Some Preset
    else if is_either name (codes "-c") (codes "--create") then Some Create
    else if is_either name (codes "-u") (codes "--unpack") then Some Unpack
    else if is_either name (codes "-d") (codes "--debug") then Some Debug
    else None

-- what an option of spiffsgen.py with a value gives
unfoldable pub gen_valued : List ℕ → Option Slot
gen_valued name =
    if is_text name (codes "--page-size") then Some Page
    else if is_text name (codes "--block-size") then Some Block
    else if is_text name (codes "--meta-len") then Some Meta
    else if is_text name (codes "--obj-name-len") then Some NameLength
    else None

-- what an option with a value gives
abbrev pub valued : List ℕ → Option Slot
valued name = option_or (plain_valued name) (gen_valued name)

-- what an option without a value gives, but for those of spiffsgen.py
unfoldable pub plain_switched : List ℕ → Option Slot
plain_switched name =
    if is_text name (codes "--dry-run") then Some DryRun
    else if is_text name (codes "--repair") then Some Repair
    else if is_text name (codes "--svg") then Some Svg
    else if is_text name (codes "--force") then Some Force
    else if is_either name (codes "-l") (codes "--list") then Some Lists
    else if is_either name (codes "-i") (codes "--visualize") then Some Visualize
    else if is_either name (codes "-a") (codes "--all-files") then Some AllFiles
    else None

-- what an option of spiffsgen.py without a value gives
unfoldable pub gen_switched : List ℕ → Option Slot
gen_switched name =
    if is_either name (codes "--use-magic-len") (codes "--no-magic-len") then Some Magic
    else if is_text name (codes "--use-magic") then Some UseMagic
    else if is_text name (codes "--no-magic") then Some NoMagic
    else if is_text name (codes "--big-endian") then Some BigEndian
    else if is_text name (codes "--aligned-obj-ix-tables") then Some Aligned
    else if is_text name (codes "--follow-symlinks") then Some Links
    else None

-- what an option without a value gives that isn't among the first ones
abbrev pub further_switched : List ℕ → Option Slot
further_switched name = if is_text name (codes "--raw-names") then Some RawNames else gen_switched name

-- what an option without a value gives
abbrev pub switched : List ℕ → Option Slot
switched name = option_or (plain_switched name) (further_switched name)

-- the value that an option without one stands for
unfoldable pub text_of : List ℕ → List ℕ
text_of name =
    if is_text name (codes "--use-magic-len") then codes "len"
    else if is_text name (codes "--no-magic-len") then codes "plain"
    else name
