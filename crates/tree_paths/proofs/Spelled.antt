-- Names that are spelled as one part of a path.
use Rattle.std.proofs.Common.{◌≡◌, ℕ, ◌+◌, ◌/◌, ◌%◌, ◌<◌, List, [], ◌∷◌, ◌++◌, length, Bool, true, false, cond, eqb, refl, sym, ap, ◌∙◌, arith, append_assoc, ⊎_elim}
use Rattle.std.specs.Prelude.{not, ◌&&◌, ◌==◌}
use Rattle.std.specs.List.{list_all, list_any, onto_first, flat_map}
use Rattle.std.specs.Fmt.{digit_glyph}
use Rattle.std.proofs.lemmas.Bool.{false≢true, cases_Bool}
use Rattle.std.proofs.lemmas.List.Folds.{list_all-append}
use Rattle.std.proofs.lemmas.Grind.{common_steps}
use Rattle.call_script.specs.Texts.{hex_pair, unescaped, is_hex, byte_of}
use Rattle.call_script.specs.Printing.{IsBytes}
use Rattle.call_script.proofs.Reading.{glyph_hex, pair_value}
use Rattle.tree_paths.specs.Tree.{is_dots, is_part, parts, is_tree_path}
use Rattle.tree_paths.specs.Naming.{aside, aside_path, stands, spelled, spelled_byte, spelled_bytes}
use Rattle.tree_paths.proofs.Tests.{both, not_true}

-- neither a zero byte nor a slash
abbrev pub is_fine : ℕ → Bool
is_fine b = not (b == 0) && not (b == 47)

glyph_fine : (d : ℕ) → is_fine (digit_glyph true d) ≡ true
glyph_fine d = grind (arith, common_steps)

byte_fine : (b : ℕ) → list_all is_fine (spelled_byte b) ≡ true
byte_fine b = go (stands b) refl
  where
    go : (v : Bool) → stands b ≡ v → list_all is_fine (cond v (b ∷ []) (37 ∷ hex_pair b)) ≡ true
    go true e = grind (arith, common_steps)
    go false e = rw (glyph_fine (b / 16), glyph_fine (b % 16)) refl

bytes_fine : (bs : List ℕ) → list_all is_fine (spelled_bytes bs) ≡ true
bytes_fine [] = refl
bytes_fine (b ∷ bs) = list_all-append is_fine (spelled_byte b) (spelled_bytes bs) ∙ rw (byte_fine b, bytes_fine bs) refl

pub spelled_fine : (name : List ℕ) → list_all is_fine (spelled name) ≡ true
spelled_fine [] = refl
spelled_fine (b ∷ bs) = elim (eqb b 46) as (λ v. list_all is_fine (cond v ((37 ∷ hex_pair 46) ++ spelled_bytes bs) (spelled_bytes (b ∷ bs))) ≡ true) [ true ↦ bytes_fine bs | false ↦ bytes_fine (b ∷ bs) ]

not_dots : (a : ℕ) (rest : List ℕ) → eqb a 46 ≡ false → is_dots (a ∷ rest) ≡ false
not_dots a [] h = h
not_dots a (b ∷ []) h = rw h refl
not_dots a (b ∷ c ∷ rest) h = refl

spelled_not_dots : (name : List ℕ) → is_dots (spelled name) ≡ false
spelled_not_dots [] = refl
spelled_not_dots (b ∷ bs) = first (eqb b 46) refl
  where
    behind : (v : Bool) → eqb b 46 ≡ false → is_dots (cond v (b ∷ []) (37 ∷ hex_pair b) ++ spelled_bytes bs) ≡ false
    behind true h = not_dots b (spelled_bytes bs) h
    behind false h = refl

    first : (v : Bool) → eqb b 46 ≡ v → is_dots (cond v ((37 ∷ hex_pair 46) ++ spelled_bytes bs) (spelled_bytes (b ∷ bs))) ≡ false
    first true e = refl
    first false e = behind (stands b) e

fine_whole : (bs : List ℕ) → list_all is_fine bs ≡ true → list_any (λ b. eqb b 0) bs ≡ false
fine_whole [] h = refl
fine_whole (b ∷ bs) h =
    let halves = both (is_fine b) (list_all is_fine bs) h in
    let some : eqb b 0 ≡ false = not_true (eqb b 0) (both (not (eqb b 0)) (not (eqb b 47)) halves.0).0 in
    rw (some, fine_whole bs halves.1) refl

fine_alone : (bs : List ℕ) → list_all is_fine bs ≡ true → parts bs ≡ bs ∷ []
fine_alone [] h = refl
fine_alone (b ∷ bs) h =
    let halves = both (is_fine b) (list_all is_fine bs) h in
    let no : eqb b 47 ≡ false = not_true (eqb b 47) (both (not (eqb b 0)) (not (eqb b 47)) halves.0).1 in
    rw no (ap (onto_first b) (fine_alone bs halves.1))

-- a path that is put aside leads down
pub aside_down : (name : List ℕ) → is_tree_path (aside_path name) ≡ true
aside_down name =
    ap (λ (ps : List (List ℕ)). list_all is_part ps) (fine_alone (spelled name) (spelled_fine name))
    ∙ rw (spelled_not_dots name, fine_whole (spelled name) (spelled_fine name)) refl

unescaped_plain : (a : ℕ) (rest : List ℕ) → eqb a 37 ≡ false → unescaped (a ∷ rest) ≡ a ∷ unescaped rest
unescaped_plain a [] h = refl
unescaped_plain a (b ∷ []) h = refl
unescaped_plain a (b ∷ c ∷ rest) h = rw h refl

byte_read : (b : ℕ) (rest : List ℕ) → b < 256 → unescaped (spelled_byte b ++ rest) ≡ b ∷ unescaped rest
byte_read b rest h = go (stands b) refl
  where
    go : (v : Bool) → stands b ≡ v → unescaped (cond v (b ∷ []) (37 ∷ hex_pair b) ++ rest) ≡ b ∷ unescaped rest
    go true e = unescaped_plain b rest (grind (arith, common_steps))
    go false e = rw (glyph_hex (b / 16) (omega arith), glyph_hex (b % 16) (omega arith)) (ap (λ (k : ℕ). k ∷ unescaped rest) (pair_value b h))

bytes_read : (bs : List ℕ) → IsBytes bs → unescaped (spelled_bytes bs) ≡ bs
bytes_read [] h = refl
bytes_read (b ∷ bs) h = byte_read b (spelled_bytes bs) h.0 ∙ ap (λ l. b ∷ l) (bytes_read bs h.1)

-- what is spelled is read back
pub spelled_read : (b : ℕ) (bs : List ℕ) → IsBytes (b ∷ bs) → unescaped (spelled (b ∷ bs)) ≡ b ∷ bs
spelled_read b bs h = ⊎_elim
    (λ (yes : eqb b 46 ≡ true).
    let dot : b ≡ 46 = grind (arith, common_steps) in
    rw yes (ap (λ l. 46 ∷ l) (bytes_read bs h.1) ∙ ap (λ (k : ℕ). k ∷ bs) (sym dot)))
    (λ (no : eqb b 46 ≡ false). rw no (bytes_read (b ∷ bs) h))
    (cases_Bool (eqb b 46))
