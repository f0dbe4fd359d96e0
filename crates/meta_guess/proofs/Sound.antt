-- No id is damaged, by the count.
use Rattle.std.proofs.Common.{◌≡◌, ℕ, List, [], ◌∷◌, length, sym, refl, ◌∙◌, arith}
use Rattle.geometry.specs.declared.geometry.Geometry.{Geometry}
use Rattle.image_model.specs.Tables.{damaged_of}

none_in : {X : Type 0} (xs : List X) → length xs ≡ 0 → xs ≡ []
none_in [] e = refl
none_in (x ∷ xs) e = absurd (omega (arith, e))

pub none_counted : (g : Geometry) (image : List ℕ) (count : ℕ) → count ≡ length (damaged_of g image) → count ≡ 0 → damaged_of g image ≡ []
none_counted g image count is zero = none_in (damaged_of g image) (sym is ∙ zero)
