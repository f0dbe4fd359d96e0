-- The printed answer whether an image is tidy.
use Rattle.std.proofs.Common.{◌≡◌, ℕ, Bool, true, false, ◌&&◌, ◌==◌, List, [], ◌∷◌, length, refl, sym, ◌∙◌, arith, ⊎_elim}
use Rattle.std.specs.Prelude.{IsTrue, ◌↔◌}
use Rattle.std.proofs.lemmas.Bool.{cases_Bool, and_parts, eqb-true}
use Rattle.geometry.specs.declared.geometry.Geometry.{Geometry}
use Rattle.image_model.specs.Tables.{damaged_of}
use Rattle.image_model.specs.Tidy.{IsTidy}
use Rattle.image_model.specs.Kinds.{mixed_blocks, spoiled_blocks}
use Rattle.image_model.specs.Killed.{killed_of}
use Rattle.plain_image.proofs.Clear.{AllClear, tidy_from, tidy_to}
use Rattle.plain_explain.specs.Report.{is_tidy}

empty : {A : Type 0} (xs : List A) → length xs ≡ 0 → xs ≡ []
empty [] h = refl
empty (x ∷ xs) h = absurd (omega (arith, h))

clear_of : (g : Geometry) (image : List ℕ) → is_tidy g image ≡ true → AllClear g image
unfolding is_tidy
clear_of g image e =
    let a = and_parts ((spoiled_blocks g image == 0) && (mixed_blocks g image == 0) && (killed_of g image == 0)) (length (damaged_of g image) == 0) e in
    let b = and_parts ((spoiled_blocks g image == 0) && (mixed_blocks g image == 0)) (killed_of g image == 0) a.0 in
    let d = and_parts (spoiled_blocks g image == 0) (mixed_blocks g image == 0) b.0 in
    record { spoiled = eqb-true _ _ d.0; mixed = eqb-true _ _ d.1; killed = eqb-true _ _ b.1; damaged = empty _ (eqb-true _ _ a.1) }

tidy_of : (g : Geometry) (image : List ℕ) → AllClear g image → is_tidy g image ≡ true
unfolding is_tidy
tidy_of g image c = rw (c.spoiled, c.mixed, c.killed, c.damaged) refl

pub tidy_told : (g : Geometry) (image : List ℕ) (told : Bool) → (IsTrue told ↔ IsTidy g image) → told ≡ is_tidy g image
tidy_told g image told h =
    ⊎_elim
    (λ (tidy : is_tidy g image ≡ true). h.1 (tidy_from g image (clear_of g image tidy)) ∙ sym tidy)
    (λ (other : is_tidy g image ≡ false). ⊎_elim
    (λ (t : told ≡ true). let bad : true ≡ false = sym (tidy_of g image (tidy_to g image (h.0 t))) ∙ other in absurd (cc))
    (λ (t : told ≡ false). t ∙ sym other)
    (cases_Bool told))
    (cases_Bool (is_tidy g image))
