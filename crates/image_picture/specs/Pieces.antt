-- The pieces that a picture is made of.
use Rattle.std.specs.Prelude.{ℕ, ◌+◌, ◌*◌, ◌/◌, ◌%◌, List, [], ◌∷◌, ◌++◌, Bool, true, false, nat_lt, if◌then◌else◌, codes, decimal}
use Rattle.geometry.specs.declared.geometry.Geometry.{Geometry}
use Rattle.image_model.specs.Places.{block_of, place_of}
use Rattle.image_picture.specs.declared.signs.Sign.{Sign}
use Rattle.image_picture.specs.declared.signs.Sign.TheVariants.{Lookup, Free, Deleted, Live, Neither}
use Rattle.image_picture.specs.declared.style.Style.{Style}
use Rattle.image_picture.specs.declared.style.Style.TheVariants.{Text, Svg}
use Rattle.image_picture.specs.Signs.{letter_of, word_of, hue_of}

-- the digit of a number that stands for a power of ten, a space where the number is smaller
abbrev pub lead : ℕ → ℕ → ℕ
lead n power = if nat_lt n power then 32 else 48 + n / power % 10

-- a number below 100,000 in five places, with spaces before it
abbrev pub five : ℕ → List ℕ
five n = lead n 10000 ∷ lead n 1000 ∷ lead n 100 ∷ lead n 10 ∷ (48 + n % 10) ∷ []

-- what the slot of an erase count tells: a dash where it is 0x8000 or more, which is no count (SPIFFS erase count)
abbrev pub count_text : ℕ → List ℕ
count_text raw = if nat_lt raw 0x8000 then five raw else codes "    -"

-- whether a block has its magic: an exclamation mark where it lacks it
abbrev pub magic_text : Bool → List ℕ
magic_text true = codes " "
magic_text false = codes "!"

-- a block's number, its erase count, and whether it has its magic
unfoldable pub label : ℕ → ℕ → Bool → List ℕ
label block raw has = five block ++ 32 ∷ (count_text raw ++ 32 ∷ magic_text has)

-- where the row of a block begins in an SVG picture, and where the baseline of its label is
unfoldable pub row_top : ℕ → ℕ
row_top block = 12 * block + 14

-- what stands before the pages of a block
unfoldable pub opening : Style → ℕ → List ℕ → List ℕ
opening Text block text = text ++ codes " "
opening Svg block text = codes "<text y='" ++ decimal (row_top block + 9) ++ codes "'>" ++ text ++ codes "</text>\n"

-- what stands behind them
abbrev pub closing : Style → List ℕ
closing Text = codes "\n"
closing Svg = []

-- the colour of a live page is that of its file's id, which its header has but for the bit of index pages
abbrev pub fill_text : Sign → List ℕ
fill_text Lookup = []
fill_text Free = []
fill_text Deleted = []
fill_text (Live head) = codes " fill='hsl(" ++ decimal (hue_of (head.id % 0x8000)) ++ codes ",65%,60%)'"
fill_text Neither = []

-- the id and the span index of a live page
abbrev pub whose_text : Sign → List ℕ
whose_text Lookup = []
whose_text Free = []
whose_text Deleted = []
whose_text (Live head) = codes " id " ++ decimal (head.id % 0x8000) ++ codes " span " ++ decimal head.span
whose_text Neither = []

-- where the rectangle of a page stands, and its class
unfoldable pub place_text : Geometry → ℕ → Sign → List ℕ
place_text g p sign =
    codes "<rect x='" ++ decimal (12 * place_of g p + 90) ++ codes "' y='" ++ decimal (row_top (block_of g p))
    ++ codes "' width='9' height='9' class='" ++ word_of sign ++ codes "'" ++ fill_text sign

-- the title of a page
unfoldable pub title_text : ℕ → Sign → List ℕ
title_text p sign = codes "><title>page " ++ decimal p ++ codes " " ++ word_of sign ++ whose_text sign ++ codes "</title></rect>\n"

-- what is written for a page
unfoldable pub page_piece : Style → Geometry → ℕ → Sign → List ℕ
page_piece Text g p sign = letter_of sign
page_piece Svg g p sign = place_text g p sign ++ title_text p sign
