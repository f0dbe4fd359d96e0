-- Names and texts as a script spells them, and as a reply prints them.
use Rattle.std.specs.Prelude.{ℕ, ◌+◌, ◌*◌, ◌/◌, ◌%◌, Bool, true, List, [], ◌∷◌, length, Option, Some, None, ◌==◌, ◌&&◌, not, nat_lt, if◌then◌else◌}
use Rattle.std.specs.List.{list_all, flat_map}
use Rattle.std.specs.Char.{is_ascii_graphic, digit_value}
use Rattle.std.specs.Fmt.{digit_glyph}

-- a hexadecimal digit of either case
abbrev pub is_hex : ℕ → Bool
is_hex b = nat_lt (digit_value b) 16

-- the byte that two hexadecimal digits stand for
abbrev pub byte_of : ℕ → ℕ → ℕ
byte_of high low = digit_value high * 16 + digit_value low

-- the bytes that a text stands for: `%` and two hexadecimal digits for that byte, everything else for itself
abbrev pub unescaped : List ℕ → List ℕ
unescaped [] = []
unescaped (a ∷ []) = a ∷ []
unescaped (a ∷ b ∷ []) = a ∷ b ∷ []
unescaped (a ∷ b ∷ c ∷ rest) =
    if (a == 37) && is_hex b && is_hex c then byte_of b c ∷ unescaped rest else a ∷ unescaped (b ∷ c ∷ rest)

-- each byte is from 0x21 to 0x7E and none is `%`, so that each stands for itself
abbrev pub is_plain : List ℕ → Bool
is_plain = list_all (λ b. is_ascii_graphic b && not (b == 37))

-- the bytes that a word stands for as a name or a text: one or more from 0x21 to 0x7E
unfoldable pub text_of : List ℕ → Option (List ℕ)
text_of word = if not (length word == 0) && list_all is_ascii_graphic word then Some (unescaped word) else None

-- the byte of two hexadecimal digits of either case
unfoldable pub hex_byte_of : List ℕ → Option ℕ
hex_byte_of [] = None
hex_byte_of (a ∷ []) = None
hex_byte_of (a ∷ b ∷ []) = if is_hex a && is_hex b then Some (byte_of a b) else None
hex_byte_of (a ∷ b ∷ c ∷ rest) = None

-- a byte as two upper-case hexadecimal digits
abbrev pub hex_pair : ℕ → List ℕ
hex_pair b = digit_glyph true (b / 16) ∷ digit_glyph true (b % 16) ∷ []

-- bytes as pairs of upper-case hexadecimal digits
unfoldable pub hex_text : List ℕ → List ℕ
hex_text bytes = flat_map hex_pair bytes

-- a byte as a reply prints it: one from 0x21 to 0x7E other than `%` as itself, another as `%` and its two hexadecimal digits
abbrev pub printed_byte : ℕ → List ℕ
printed_byte b = if is_ascii_graphic b && not (b == 37) then b ∷ [] else 37 ∷ hex_pair b

-- a name or a text as a reply prints it
unfoldable pub printed : List ℕ → List ℕ
printed bytes = flat_map printed_byte bytes
