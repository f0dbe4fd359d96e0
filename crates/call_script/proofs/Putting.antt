-- How pieces of a line come one behind the other.
use Rattle.std.proofs.Common.{◌≡◌, ℕ, ◌+◌, ◌<◌, ◌≤◌, ◌^◌, List, [], ◌∷◌, ◌++◌, length, take, sym, ◌∙◌, ap, arith, append_assoc, append-nil, length-append, refl, lit<, get_or}
use Rattle.std.specs.Fmt.{decimal}
use Rattle.std.proofs.lemmas.Fmt.{length-decimal-le}
use Rattle.std.specs.List.{flat_map}
use Rattle.std.proofs.lemmas.List.{take_more}
use Rattle.std.proofs.lemmas.Grind.{flat_map-append}
use Rattle.call_script.specs.Texts.{printed, printed_byte, hex_text, hex_pair}
use Rattle.call_script.specs.Pieces.{Puts}

-- a piece behind another
pub puts_more : (a b c p q : List ℕ) (i j k : ℕ) → Puts a i p b j → Puts b j q c k → Puts a i (p ++ q) c k
puts_more a b c p q i j k one two = record {
  written = two.written ∙ ap (λ l. l ++ q) one.written ∙ append_assoc (take i a) p q;
  end_is = omega (arith, length-append p q, one.end_is, two.end_is);
  length_is = two.length_is ∙ one.length_is;
}

-- the same piece, otherwise written
pub puts_same : (a b p q : List ℕ) (i j : ℕ) → p ≡ q → Puts a i p b j → Puts a i q b j
puts_same a b p q i j e one = rw (← e) one

-- a number of 32 bits has ten digits at most
pub ten_digits : (n : ℕ) → n < 2 ^ 32 → length (decimal n) ≤ 10
ten_digits n h = length-decimal-le 10 n (lit< tt) (omega arith) (omega arith)

-- nothing is put
pub puts_none : (a : List ℕ) (i : ℕ) → Puts a i [] a i
puts_none a i = record { written = sym (append-nil (take i a)); end_is = omega arith; length_is = refl }

-- the next byte of a name or a text
pub printed_more : (bs : List ℕ) (i : ℕ) → i < length bs → printed (take (i + 1) bs) ≡ printed (take i bs) ++ printed_byte (get_or bs i 0)
unfolding printed
printed_more bs i h = rw (take_more bs i 0 h) (flat_map-append printed_byte (take i bs) (get_or bs i 0 ∷ []) ∙ ap (λ l. flat_map printed_byte (take i bs) ++ l) (append-nil (printed_byte (get_or bs i 0))))

-- the next byte as a pair of digits
pub hex_text_more : (bs : List ℕ) (i : ℕ) → i < length bs → hex_text (take (i + 1) bs) ≡ hex_text (take i bs) ++ hex_pair (get_or bs i 0)
unfolding hex_text
hex_text_more bs i h = rw (take_more bs i 0 h) (flat_map-append hex_pair (take i bs) (get_or bs i 0 ∷ []))

-- no bytes are printed as nothing
pub printed_none : printed [] ≡ []
unfolding printed
printed_none = refl

pub hex_text_none : hex_text [] ≡ []
unfolding hex_text
hex_text_none = refl

-- four pieces of two parts each
pub regroup : (a b c d e f g h : List ℕ) → (((a ++ b) ++ (c ++ d)) ++ (e ++ f)) ++ (g ++ h) ≡ ((((((a ++ b) ++ c) ++ d) ++ e) ++ f) ++ g) ++ h
regroup a b c d e f g h = simp append_assoc
