use Rattle.std.proofs.Common.{◌≡◌, ℕ, List, map, sym, subst}
use Rattle.std.specs.List.{Contains}
use Rattle.image_model.specs.declared.damage.Damage.{Damage}
use Rattle.plain_image.proofs.sound.is_sound.Goals as goal

-- what a list of damaged files tells of an image's
named : (xs ys : List (ℕ × Damage)) (id : ℕ) → xs ≡ ys → Contains (map (λ d. d.0) xs) id → Contains (map (λ d. d.0) ys) id
named xs ys id same there = subst (λ (l : List (ℕ × Damage)). Contains (map (λ d. d.0) l) id) same there

pub returns : goal.returns
returns c = (
  λ h. record {
    magics = c.has_magics.ensures.0 c.if-not-has_magics.false;
    mixed = c.keeps_mixed.ensures.0 c.if-not-keeps_mixed.false;
    damaged = λ id there. named _ _ id c.requires.first_damaged (c.keeps_damaged.ensures.0 h id (named _ _ id (sym c.requires.damaged) there));
  },
  λ s. c.keeps_damaged.ensures.1 (λ id there. named _ _ id (sym c.requires.first_damaged) (s.damaged id (named _ _ id c.requires.damaged there))),
)
