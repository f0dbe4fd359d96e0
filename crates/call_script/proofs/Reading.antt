-- What is printed is read back.
use Rattle.std.proofs.Common.{◌≡◌, ℕ, ℤ, zero, suc, ◌+◌, ◌-◌, ◌*◌, ◌/◌, ◌%◌, ◌^◌, ◌<◌, ◌≤◌, List, [], ◌∷◌, ◌++◌, length, get_or, refl, ap, arith, Bool, true, false, cond, eqb, leb, ◌∙◌, Some, None, pos, negsuc, lit<}
use Rattle.std.specs.Prelude.{decimal, not, ◌&&◌, ◌==◌}
use Rattle.std.specs.Fmt.{digit_glyph, signed_decimal}
use Rattle.std.specs.Char.{is_ascii_digit, is_ascii_graphic, digit_value}
use Rattle.std.specs.List.{list_all, flat_map}
use Rattle.std.proofs.lemmas.Grind.{common_steps}
use Rattle.std.proofs.lemmas.Fmt.{decimal_by_steps, first_decimal, decimal_digit, decimal_nonempty}
use Rattle.call_script.specs.Numerals.{digits_after, number_of, number_up_to, signed_up_to}
use Rattle.call_script.specs.Texts.{unescaped, text_of, hex_byte_of, byte_of, hex_pair, printed, printed_byte, is_hex}
use Rattle.call_script.specs.Printing.{IsBytes, IsText, IsOffset}
use Rattle.call_script.proofs.Numbers.{signed_plain}

-- one more digit at the end
digits_push : (m : ℕ) (ds : List ℕ) (v d : ℕ) → digits_after m ds ≡ Some v → is_ascii_digit d ≡ true → digits_after m (ds ++ d ∷ []) ≡ Some (10 * v + (d - 48))
digits_push m [] v d e digit = let same : m ≡ v = cc in rw (digit, same) refl
digits_push m (x ∷ ds) v d e digit = go (λ h. digits_push (10 * m + (x - 48)) ds v d h digit) (is_ascii_digit x) e
  where
    go : (digits_after (10 * m + (x - 48)) ds ≡ Some v → digits_after (10 * m + (x - 48)) (ds ++ d ∷ []) ≡ Some (10 * v + (d - 48))) → (b : Bool) → cond b (digits_after (10 * m + (x - 48)) ds) None ≡ Some v → cond b (digits_after (10 * m + (x - 48)) (ds ++ d ∷ [])) None ≡ Some (10 * v + (d - 48))
    go step true h = step h
    go step false h = cc

-- the digits that are printed of a number
pub decimal_read : (n : ℕ) → n < 2 ^ 64 → digits_after 0 (decimal n) ≡ Some n
decimal_read n h = decimal_by_steps (λ m ds. digits_after 0 ds ≡ Some m)
    (λ m small. let t : is_ascii_digit (48 + m) ≡ true = grind (arith, common_steps) in rw t (ap (λ (k : ℕ). Some k) (omega arith)))
    (λ m ds large e. let t : is_ascii_digit (48 + m % 10) ≡ true = grind (arith, common_steps) in digits_push 0 ds (m / 10) (48 + m % 10) e t ∙ ap (λ (k : ℕ). Some k) (omega arith))
    n h

-- digits of which the first is no zero
number_plain : (ds : List ℕ) → 0 < length ds → 48 < get_or ds 0 0 → number_of ds ≡ digits_after 0 ds
unfolding number_of
number_plain [] some first = absurd (omega arith)
number_plain (d ∷ []) some first = refl
number_plain (d ∷ e ∷ ds) some first = let t : eqb d 48 ≡ false = grind (arith, common_steps) in rw t refl

number_one : (n : ℕ) → number_of (n ∷ []) ≡ digits_after 0 (n ∷ [])
unfolding number_of
number_one n = refl

-- a number that was printed
pub number_read : (n : ℕ) → n < 2 ^ 64 → number_of (decimal n) ≡ Some n
number_read zero h = rw (decimal_digit 0 (lit< tt)) (number_one 48)
number_read (suc n) h = number_plain (decimal (suc n)) (decimal_nonempty (suc n) h) (first_decimal (suc n) (omega arith) h) ∙ decimal_read (suc n) h

pub number_within : (most n : ℕ) → n ≤ most → n < 2 ^ 64 → number_up_to most (decimal n) ≡ Some n
unfolding number_up_to
number_within most n low h = let t : leb n most ≡ true = grind (arith, common_steps) in rw (number_read n h) (rw t refl)

-- no number begins with `-`
no_minus : (n : ℕ) → n < 2 ^ 64 → get_or (decimal n) 0 0 ≡ 45 → ⊥
no_minus zero h e = let zero_is : decimal 0 ≡ 48 ∷ [] = decimal_digit 0 (lit< tt) in let first = rw zero_is at e in omega arith
no_minus (suc n) h e = let first : 48 < get_or (decimal (suc n)) 0 0 = first_decimal (suc n) (omega arith) h in omega arith

-- an offset that was printed
pub signed_read : (z : ℤ) → IsOffset z → signed_up_to 4294967295 (signed_decimal z) ≡ Some z
unfolding signed_up_to
signed_read (pos n) h = signed_plain 4294967295 (decimal n) n (number_within 4294967295 n h (omega arith)) (no_minus n (omega arith))
signed_read (negsuc n) h =
    let t : eqb (suc n) 0 ≡ false = grind (arith, common_steps) in
    let less : suc n - 1 ≡ n = omega arith in
    rw (number_within 4294967295 (suc n) h (omega arith)) (rw t (ap (λ (k : ℕ). Some (negsuc k)) less))

-- the value of a printed hexadecimal digit
pub glyph_value : (d : ℕ) → d < 16 → digit_value (digit_glyph true d) ≡ d
glyph_value d h = grind (arith, common_steps)

pub glyph_graphic : (d : ℕ) → d < 16 → is_ascii_graphic (digit_glyph true d) ≡ true
glyph_graphic d h = grind (arith, common_steps)

pub glyph_hex : (d : ℕ) → d < 16 → is_hex (digit_glyph true d) ≡ true
glyph_hex d h = rw (glyph_value d h) (grind (arith, common_steps))

pub pair_value : (b : ℕ) → b < 256 → byte_of (digit_glyph true (b / 16)) (digit_glyph true (b % 16)) ≡ b
pair_value b h = rw (glyph_value (b / 16) (omega arith), glyph_value (b % 16) (omega arith)) (omega arith)

pub hex_read : (b : ℕ) → b < 256 → hex_byte_of (hex_pair b) ≡ Some b
unfolding hex_byte_of
hex_read b h = rw (glyph_hex (b / 16) (omega arith), glyph_hex (b % 16) (omega arith)) (ap (λ (k : ℕ). Some k) (pair_value b h))

unescaped_plain : (a : ℕ) (rest : List ℕ) → eqb a 37 ≡ false → unescaped (a ∷ rest) ≡ a ∷ unescaped rest
unescaped_plain a [] h = refl
unescaped_plain a (b ∷ []) h = refl
unescaped_plain a (b ∷ c ∷ rest) h = rw h refl

-- a byte that was printed
byte_read : (b : ℕ) (rest : List ℕ) → b < 256 → unescaped (printed_byte b ++ rest) ≡ b ∷ unescaped rest
byte_read b rest h = go (is_ascii_graphic b && not (b == 37)) refl
  where
    go : (v : Bool) → (is_ascii_graphic b && not (b == 37)) ≡ v → unescaped (cond v (b ∷ []) (37 ∷ hex_pair b) ++ rest) ≡ b ∷ unescaped rest
    go true e = unescaped_plain b rest (grind (arith, common_steps))
    go false e = rw (glyph_hex (b / 16) (omega arith), glyph_hex (b % 16) (omega arith)) (ap (λ (k : ℕ). k ∷ unescaped rest) (pair_value b h))

byte_graphic : (b : ℕ) (rest : List ℕ) → b < 256 → list_all is_ascii_graphic rest ≡ true → list_all is_ascii_graphic (printed_byte b ++ rest) ≡ true
byte_graphic b rest h all = go (is_ascii_graphic b && not (b == 37)) refl
  where
    go : (v : Bool) → (is_ascii_graphic b && not (b == 37)) ≡ v → list_all is_ascii_graphic (cond v (b ∷ []) (37 ∷ hex_pair b) ++ rest) ≡ true
    go true e = let t : is_ascii_graphic b ≡ true = grind (arith, common_steps) in rw t all
    go false e = rw (glyph_graphic (b / 16) (omega arith), glyph_graphic (b % 16) (omega arith)) all

pub printed_graphic : (bs : List ℕ) → IsBytes bs → list_all is_ascii_graphic (printed bs) ≡ true
unfolding printed
printed_graphic [] h = refl
printed_graphic (b ∷ bs) h = byte_graphic b (flat_map printed_byte bs) h.0 (printed_graphic bs h.1)

printed_read : (bs : List ℕ) → IsBytes bs → unescaped (printed bs) ≡ bs
unfolding printed
printed_read [] h = refl
printed_read (b ∷ bs) h = byte_read b (flat_map printed_byte bs) h.0 ∙ ap (λ l. b ∷ l) (printed_read bs h.1)

printed_some : (bs : List ℕ) → 0 < length bs → eqb (length (printed bs)) 0 ≡ false
unfolding printed
printed_some [] h = absurd (omega arith)
printed_some (b ∷ bs) h = go (is_ascii_graphic b && not (b == 37))
  where
    go : (v : Bool) → eqb (length (cond v (b ∷ []) (37 ∷ hex_pair b) ++ flat_map printed_byte bs)) 0 ≡ false
    go true = grind (arith, common_steps)
    go false = grind (arith, common_steps)

-- a name or a text that was printed
pub text_read : (bs : List ℕ) → IsText bs → text_of (printed bs) ≡ Some bs
unfolding text_of
text_read bs h = rw (printed_some bs h.0, printed_graphic bs h.1) (ap (λ (l : List ℕ). Some l) (printed_read bs h.1))
