-- One more page that is known to be wanted or not, and one more id that is known to have a file in the table or not.
use Rattle.std.proofs.Common.{◌≡◌, ℕ, ◌+◌, ◌<◌, List, [], ◌∷◌, ◌++◌, length, get_or, Bool, false, sym, ◌∙◌, ap, arith, ⊎_elim}
use Rattle.std.proofs.lemmas.List.{get_or_append_left, get_or_at, length-append}
use Rattle.std.proofs.lemmas.Bool.{cases_eq}
use Rattle.geometry.specs.declared.geometry.Geometry.{Geometry}
use Rattle.image_model.specs.Tidy.{is_wanted}
use Rattle.plain_image.specs.Wanting.{AreWanted, AreWhole, is_whole}

pub wanted_none : (g : Geometry) (image : List ℕ) (wanted : List Bool) → wanted ≡ [] → AreWanted g image 0 wanted
wanted_none g image wanted none = record { len = ap length none; each = λ p low. absurd (omega arith) }

pub wanted_more : (g : Geometry) (image : List ℕ) (n : ℕ) (old new : List Bool) (b : Bool) → AreWanted g image n old → new ≡ old ++ b ∷ [] → b ≡ is_wanted g image n → AreWanted g image (n + 1) new
wanted_more g image n old new b was more is = record {
  len = ap length more ∙ (let long = length-append old (b ∷ []) in omega (arith, long, was.len));
  each = λ p low. ap (λ (l : List Bool). get_or l p false) more ∙ ⊎_elim
      (λ (last : p ≡ n). (let here = get_or_at old b [] false p (was.len ∙ sym last) in here ∙ is ∙ ap (is_wanted g image) (sym last)))
      (λ (other : p ≡ n → ⊥). (let below : p < n = omega (arith, other) in get_or_append_left old (b ∷ []) false p (omega (arith, was.len)) ∙ was.each p below))
      (cases_eq p n);
}

pub whole_none : (g : Geometry) (image : List ℕ) (wanted : List Bool) → wanted ≡ [] → AreWhole g image 0 wanted
whole_none g image wanted none = record { len = ap length none; each = λ p low. absurd (omega arith) }

pub whole_more : (g : Geometry) (image : List ℕ) (n : ℕ) (old new : List Bool) (b : Bool) → AreWhole g image n old → new ≡ old ++ b ∷ [] → b ≡ is_whole g image n → AreWhole g image (n + 1) new
whole_more g image n old new b was more is = record {
  len = ap length more ∙ (let long = length-append old (b ∷ []) in omega (arith, long, was.len));
  each = λ p low. ap (λ (l : List Bool). get_or l p false) more ∙ ⊎_elim
      (λ (last : p ≡ n). (let here = get_or_at old b [] false p (was.len ∙ sym last) in here ∙ is ∙ ap (is_whole g image) (sym last)))
      (λ (other : p ≡ n → ⊥). (let below : p < n = omega (arith, other) in get_or_append_left old (b ∷ []) false p (omega (arith, was.len)) ∙ was.each p below))
      (cases_eq p n);
}
