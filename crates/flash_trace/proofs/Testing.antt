-- What the judge's tests of bytes tell.
use Rattle.std.proofs.Common.{◌≡◌, ◌↔◌, ℕ, ◌<◌, ◌≤◌, ◌&&◌, List, [], ◌∷◌, ◌++◌, length, drop, refl, sym, ◌∙◌, ap, subst, arith, length-append, length-drop, Bool, true, false, IsTrue, Option, Some, None, Result, Ok, Err}
use Rattle.std.specs.Prelude.{not, nat_lt, ◌==◌, map, is_some, if◌then◌else◌, IfOk, Vec}
use Rattle.std.specs.declared.alloc.Global.{Global}
use Rattle.std.proofs.lemmas.Bool.{lt-ltb, le-ltb}
use Rattle.std.proofs.lemmas.Bool.Decides.{nat_tests}
use Rattle.geometry.specs.declared.geometry.Geometry.{Geometry}
use Rattle.image_model.specs.Tidy.{free_blocks}
use Rattle.image_model.specs.Kinds.{spoiled_blocks}
use Rattle.image_model.specs.Shared.{fits_over, shared_blocks}
use Rattle.image_model.specs.Collect.{chosen_block, are_had}
use Rattle.run_model.specs.Runs.{IsPart, LacksPage}
use Rattle.table_model.specs.Window.{Moment, from_settled, IsAmong}
use Rattle.plain_table.specs.declared.file.PlainFile.{PlainFile}
use Rattle.plain_table.specs.Seen.{file, files_of}
use Rattle.flash_trace.specs.Good.{IsBegun, mixed_text, tight_text, unbegun_text}

-- a test that tells a property
pub told_by : (b : Bool) (P : Type 0) → (b ≡ true → P) → (b ≡ false → P → ⊥) → IsTrue b ↔ P
told_by true P holds fails = (λ h. holds refl, λ p. refl)
told_by false P holds fails = (λ h. absurd (let bad : false ≡ true = h in cc), λ p. absurd (fails refl p))

-- one that says no where it doesn't hold
pub told_no : (P : Type 0) → (P → ⊥) → IsTrue false ↔ P
told_no P fails = told_by false P (λ e. absurd (let bad : false ≡ true = e in cc)) (λ e p. fails p)

pub told_yes : (P : Type 0) → P → IsTrue true ↔ P
told_yes P p = told_by true P (λ e. p) (λ e. absurd (let bad : true ≡ false = e in cc))

-- what a test that said no tells
pub not_told : (b : Bool) (P : Type 0) → IsTrue b ↔ P → b ≡ false → P → ⊥
not_told b P is e p = absurd (let bad : false ≡ true = sym e ∙ is.1 p in cc)

-- what a test tells that is turned round
pub not_true : (b : Bool) → not b ≡ true → b ≡ false
not_true true e = absurd (let bad : false ≡ true = e in cc)
not_true false e = refl

pub not_false : (b : Bool) → not b ≡ false → b ≡ true
not_false true e = refl
not_false false e = absurd (let bad : true ≡ false = e in cc)

-- a first test that held and a second one
pub told_both : (b : Bool) (P Q : Type 0) → P → IsTrue b ↔ Q → IsTrue b ↔ (P × Q)
told_both b P Q p is = (λ h. (p, is.0 h), λ w. is.1 w.1)

-- a test that may want memory
pub ok_told : {E : Type 0} (r : Result Bool E) (P Q : Type 0) → (P → Q) → (Q → P) → IfOk r (λ b. IsTrue b ↔ P) → IfOk r (λ b. IsTrue b ↔ Q)
ok_told (Ok b) P Q to from is = (λ h. to (is.0 h), λ q. is.1 (from q))
ok_told (Err e) P Q to from is = tt

-- a test of bytes that are the same
pub part_at : (b : Bool) (x said y line : List ℕ) → x ≡ said → y ≡ line → IsTrue b ↔ IsPart x y → IsTrue b ↔ IsPart said line
part_at b x said y line p q is = subst (λ (l : List ℕ). IsTrue b ↔ IsPart l line) p (subst (λ (l : List ℕ). IsTrue b ↔ IsPart x l) q is)

pub begun_at : (b : Bool) (x said y line : List ℕ) → x ≡ said → y ≡ line → IsTrue b ↔ IsBegun x y → IsTrue b ↔ IsBegun said line
begun_at b x said y line p q is = subst (λ (l : List ℕ). IsTrue b ↔ IsBegun l line) p (subst (λ (l : List ℕ). IsTrue b ↔ IsBegun x l) q is)

module _ (said line : List ℕ) (b : Bool) (holds : b ≡ true → line ≡ said ++ drop (length said) line) (fails : b ≡ false → (more : List ℕ) → line ≡ said ++ more → ⊥) where
  -- a front of a longer line
  pub part_told : length said < length line → IsTrue b ↔ IsPart said line
  part_told short = told_by b (IsPart said line) (λ h. record { rest = drop (length said) line; whole_is = holds h; some = omega (arith, short, length-drop (length said) line) }) (λ h p. fails h p.rest p.whole_is)

  -- a front of at least one byte
  pub begun_told : 0 < length said → IsTrue b ↔ IsBegun said line
  begun_told some = told_by b (IsBegun said line) (λ h. record { rest = drop (length said) line; line_is = holds h; some = some }) (λ h p. fails h p.rest p.line_is)

-- no line is a part of one that isn't longer
pub not_part : (said line : List ℕ) → length line ≤ length said → IsPart said line → ⊥
not_part said line long p = absurd (omega (arith, long, ap length p.whole_is, length-append said p.rest, p.some))

pub not_begun : (said line : List ℕ) → length said ≡ 0 → IsBegun said line → ⊥
not_begun said line none p = absurd (omega (arith, none, p.some))

-- bytes of which there are none, or some
none_there : (l : List ℕ) → length l ≡ 0 → l ≡ []
none_there [] e = refl
none_there (x ∷ l) e = absurd (omega (arith, e))

pub none_by : (l part : List ℕ) (b : Bool) → l ≡ part → b ≡ (length l == 0) → b ≡ true → part ≡ []
none_by l part b is test holds = sym is ∙ none_there l (grind (arith, nat_tests))

pub some_by : (l part : List ℕ) (b : Bool) → l ≡ part → b ≡ (length l == 0) → b ≡ false → 0 < length part
some_by l part b is test fails = let some : 0 < length l = grind (arith, nat_tests) in subst (λ (k : List ℕ). 0 < length k) is some

-- the table is among some, with these steps
pub among_at : (b : Bool) (m : Moment) (x table : List PlainFile) (y steps : List (Vec PlainFile Global)) → x ≡ table → y ≡ steps
    → IsTrue b ↔ IsAmong (map file x) (from_settled m (map files_of y)) → IsTrue b ↔ IsAmong (map file table) (from_settled m (map files_of steps))
among_at b m x table y steps p q is =
    subst (λ (t : List PlainFile). IsTrue b ↔ IsAmong (map file t) (from_settled m (map files_of steps))) p
    (subst (λ (l : List (Vec PlainFile Global)). IsTrue b ↔ IsAmong (map file x) (from_settled m (map files_of l))) q is)

none_of : (o : Option ℕ) → is_some o ≡ false → o ≡ None
none_of None e = refl
none_of (Some n) e = absurd (let bad : true ≡ false = e in cc)

-- no block can be cleaned, and no page is had
module _ (g : Geometry) (image : List ℕ) (chosen : Option ℕ) (is : chosen ≡ chosen_block g image) where
  pub not_lacks : is_some chosen ≡ true → LacksPage g image → ⊥
  not_lacks some lacks = absurd (let bad : false ≡ true = ap is_some (sym (is ∙ lacks.stuck)) ∙ some in cc)

  pub lacks_told : (had : Bool) → is_some chosen ≡ false → had ≡ are_had g image 1 0 → IsTrue (not had) ↔ LacksPage g image
  lacks_told true none had_is = told_no (LacksPage g image) (λ lacks. absurd (let bad : true ≡ false = had_is ∙ lacks.none_had in cc))
  lacks_told false none had_is = told_yes (LacksPage g image) (record { stuck = sym is ∙ none_of chosen none; none_had = sym had_is })

-- ---- the line that ends a run before its first call

and_false : (b : Bool) → (b && false) ≡ false
and_false true = refl
and_false false = refl

abbrev pub tight_or_none : Geometry → List ℕ → Option (List ℕ)
tight_or_none g image = if nat_lt (free_blocks g image) 2 && not (is_some (chosen_block g image)) then Some (tight_text (free_blocks g image)) else None

module _ (g : Geometry) (image : List ℕ) (free : ℕ) (free_is : free ≡ free_blocks g image) where
  pub many_free : 2 ≤ free → None ≡ tight_or_none g image
  many_free many = rw (le-ltb (free_blocks g image) 2 (omega (arith, free_is, many))) refl

  module _ (chosen : Option ℕ) (is : chosen ≡ chosen_block g image) where
    pub some_to_clean : is_some chosen ≡ true → None ≡ tight_or_none g image
    some_to_clean some =
        let e : is_some (chosen_block g image) ≡ true = ap is_some (sym is) ∙ some in
        rw (e, and_false (nat_lt (free_blocks g image) 2)) refl

    pub tight_told : (line : List ℕ) → free < 2 → is_some chosen ≡ false → line ≡ tight_text free → Some line ≡ tight_or_none g image
    tight_told line few none line_is =
        let e : is_some (chosen_block g image) ≡ false = ap is_some (sym is) ∙ none in
        rw (lt-ltb (free_blocks g image) 2 (omega (arith, free_is, few)), e) (ap Some (line_is ∙ ap tight_text free_is))

module _ (g : Geometry) (first image : List ℕ) (spoiled : ℕ) (spoiled_is : spoiled ≡ spoiled_blocks g first) where
  pub none_begun : 1 < spoiled → None ≡ unbegun_text g first image
  unfolding unbegun_text
  none_begun many = rw (lt-ltb 1 (spoiled_blocks g first) (omega (arith, spoiled_is, many))) refl

  module _ (few : spoiled ≤ 1) (fits : Bool) (fits_is : fits ≡ fits_over g first) where
    pub mixed_begun : (shared : ℕ) (line : List ℕ) → shared ≡ shared_blocks g first → fits ≡ false → line ≡ mixed_text shared → Some line ≡ unbegun_text g first image
    unfolding unbegun_text
    mixed_begun shared line shared_is over line_is =
        let e : fits_over g first ≡ false = sym fits_is ∙ over in
        rw (le-ltb 1 (spoiled_blocks g first) (omega (arith, spoiled_is, few)), e) (ap Some (line_is ∙ ap mixed_text shared_is))

    pub tight_begun : fits ≡ true → tight_or_none g image ≡ unbegun_text g first image
    unfolding unbegun_text
    tight_begun over =
        let e : fits_over g first ≡ true = sym fits_is ∙ over in
        rw (le-ltb 1 (spoiled_blocks g first) (omega (arith, spoiled_is, few)), e) refl

-- a line that may want memory
pub ok_line : {E T : Type 0} (r : Result T E) (f : T → Option (List ℕ)) (a b : Option (List ℕ)) → a ≡ b → IfOk r (λ x. f x ≡ a) → IfOk r (λ x. f x ≡ b)
ok_line (Ok x) f a b same is = is ∙ same
ok_line (Err e) f a b same is = tt
