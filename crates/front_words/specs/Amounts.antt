-- Numbers of bytes as people write them.
use Rattle.std.specs.Prelude.{ℕ, ◌+◌, ◌-◌, ◌*◌, ◌/◌, List, [], ◌∷◌, length, take, slice_index, Option, Some, None, option_map, ◌==◌, ◌&&◌, nat_le}
use Rattle.std.specs.Prelude.{if◌then◌else◌}
use Rattle.std.specs.Char.{digit_value}
use Rattle.call_script.specs.Numerals.{number_up_to}
use Rattle.call_script.specs.Texts.{is_hex}

-- a number below 2 ^ 32
abbrev pub up_to : Option ℕ → Option ℕ
up_to None = None
up_to (Some n) = if nat_le n 4294967295 then Some n else None

-- the number that hexadecimal digits spell behind those of n
abbrev pub hex_after : ℕ → List ℕ → Option ℕ
hex_after n [] = Some n
hex_after n (d ∷ ds) = if is_hex d then hex_after (n * 16 + digit_value d) ds else None

-- the number that one or more hexadecimal digits spell
unfoldable pub hex_amount : List ℕ → Option ℕ
hex_amount digits = if length digits == 0 then None else up_to (hex_after 0 digits)

-- by how much the last byte of a word multiplies
abbrev pub scale_at : ℕ → ℕ
scale_at b = if b == 75 then 1024 else if b == 77 then 1048576 else 1

unfoldable pub scale_in : List ℕ → ℕ
scale_in word = if length word == 0 then 1 else scale_at (slice_index word (length word - 1))

-- a word without what multiplies
abbrev pub digits_in : List ℕ → ℕ → List ℕ
digits_in word scale = if scale == 1 then word else take (length word - 1) word

-- decimal digits, or digits with K or M behind
abbrev pub scaled : List ℕ → ℕ → Option ℕ
scaled word scale = option_map (λ n. n * scale) (number_up_to (4294967295 / scale) (digits_in word scale))

unfoldable pub decimal_amount : List ℕ → Option ℕ
decimal_amount word = scaled word (scale_in word)

-- what two bytes begin with `0x`
abbrev pub amount : List ℕ → Option ℕ
amount [] = decimal_amount []
amount (a ∷ []) = decimal_amount (a ∷ [])
amount (a ∷ b ∷ digits) = if (a == 48) && (b == 120) then hex_amount digits else decimal_amount (a ∷ b ∷ digits)
