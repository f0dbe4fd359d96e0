-- A text without `%` stands for itself.
use Rattle.std.proofs.Common.{◌≡◌, ℕ, List, [], ◌∷◌, length, refl, ap, true, false, eqb, arith, Some}
use Rattle.std.proofs.lemmas.Grind.{common_steps}
use Rattle.std.proofs.lemmas.Bool.{and_parts}
use Rattle.std.specs.Prelude.{not, ◌==◌, ◌&&◌}
use Rattle.std.specs.Char.{is_ascii_graphic}
use Rattle.std.specs.List.{list_all}
use Rattle.call_script.specs.Texts.{unescaped, is_plain, text_of}

plain_stays : (word : List ℕ) → is_plain word ≡ true → unescaped word ≡ word
plain_stays [] plain = refl
plain_stays (a ∷ []) plain = refl
plain_stays (a ∷ b ∷ []) plain = refl
plain_stays (a ∷ b ∷ c ∷ rest) plain =
    let parts = and_parts (is_ascii_graphic a && not (a == 37)) (is_plain (b ∷ c ∷ rest)) plain in
    let apart = (and_parts (is_ascii_graphic a) (not (a == 37)) parts.0).1 in
    let other : eqb a 37 ≡ false = grind (arith, common_steps) in
    rw other (ap (λ (l : List ℕ). a ∷ l) (plain_stays (b ∷ c ∷ rest) parts.1))

plain_graphic : (word : List ℕ) → is_plain word ≡ true → list_all is_ascii_graphic word ≡ true
plain_graphic [] plain = refl
plain_graphic (a ∷ rest) plain =
    let parts = and_parts (is_ascii_graphic a && not (a == 37)) (is_plain rest) plain in
    let first = (and_parts (is_ascii_graphic a) (not (a == 37)) parts.0).0 in
    rw (first, plain_graphic rest parts.1) refl

pub plain_text : (word : List ℕ) → (length word == 0) ≡ false → is_plain word ≡ true → text_of word ≡ Some word
unfolding text_of
plain_text word some plain = rw (some, plain_graphic word plain, plain_stays word plain) refl
