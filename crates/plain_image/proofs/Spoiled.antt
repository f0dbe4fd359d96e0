-- A walk over blocks that looks for two without their magic.
use Rattle.std.proofs.Common.{◌≡◌, ℕ, ◌+◌, ◌<◌, ◌≤◌, List, true, false, sym, ◌∙◌, ap, arith, ⊎_elim, Option, Some, None}
use Rattle.std.proofs.lemmas.Bool.{cases_eq}
use Rattle.geometry.specs.declared.geometry.Geometry.{Geometry}
use Rattle.image_model.specs.Places.{has_magic}
use Rattle.image_model.specs.Sound.{HasMagics}
use Rattle.plain_image.specs.Spoiled.{OneLacks}

pub lacks_none : (g : Geometry) (image : List ℕ) (o : Option ℕ) → o ≡ None → OneLacks g image 0 o
lacks_none g image o is = record { other = λ block low lacks. absurd (omega arith); here = λ block e. absurd (cc) }

-- the next block lacks it, and none did
pub lacks_more : (g : Geometry) (image : List ℕ) (n : ℕ) (was now : Option ℕ) → OneLacks g image n was → was ≡ None → has_magic g image n ≡ false → now ≡ Some n → OneLacks g image (n + 1) now
lacks_more g image n was now so none lacks is = record {
  other = λ block low also. ⊎_elim
      (λ (same : block ≡ n). is ∙ ap (λ (k : ℕ). Some k) (sym same))
      (λ (differ : block ≡ n → ⊥). absurd (let known : was ≡ Some block = so.other block (omega (arith, differ)) also in cc))
      (cases_eq block n);
  here = λ block e. (let same : n ≡ block = cc in (omega (arith, same), ap (has_magic g image) (sym same) ∙ lacks));
}

-- the next block has it
pub lacks_same : (g : Geometry) (image : List ℕ) (n : ℕ) (was now : Option ℕ) → OneLacks g image n was → has_magic g image n ≡ true → now ≡ was → OneLacks g image (n + 1) now
lacks_same g image n was now so yes' is = record {
  other = λ block low also. ⊎_elim
      (λ (same : block ≡ n). absurd (let bad : true ≡ false = sym yes' ∙ ap (has_magic g image) (sym same) ∙ also in cc))
      (λ (differ : block ≡ n → ⊥). is ∙ so.other block (omega (arith, differ)) also)
      (cases_eq block n);
  here = λ block e. (let w = so.here block (sym is ∙ e) in (omega (arith, w.0), w.1));
}

-- a second block lacks it
pub lacks_two : (g : Geometry) (image : List ℕ) (n k : ℕ) (was : Option ℕ) → OneLacks g image n was → was ≡ Some k → n < g.blocks → has_magic g image n ≡ false → HasMagics g image → ⊥
lacks_two g image n k was so is low lacks magics =
    let w = so.here k is in
    let same : k ≡ n = magics.one k n (omega (arith, w.0)) low w.1 lacks in
    omega (arith, same, w.0)

pub lacks_end : (g : Geometry) (image : List ℕ) (n : ℕ) (was : Option ℕ) → g.blocks ≤ n → OneLacks g image n was → HasMagics g image
lacks_end g image n was all so = record {
  one = λ b c low high lacks also. (let first : was ≡ Some b = so.other b (omega arith) lacks in let second : was ≡ Some c = so.other c (omega arith) also in cc);
}
