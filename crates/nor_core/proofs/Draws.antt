-- The generator, draw by draw.
use Rattle.std.proofs.Common.{◌≡◌, ℕ, ◌+◌, ◌/◌, ◌^◌, ◌<◌, List, [], ◌∷◌, ◌++◌, length, get_or, refl, sym, ◌∙◌, ap, add-one, below_more, arith}
use Rattle.std.proofs.lemmas.Grind.{common_steps}
use Rattle.nor_core.specs.Draws.{next_number, number_after, drawn}

-- no draw leaves the seed
pub number_after-none : (seed : ℕ) → seed ≡ number_after seed 0
unfolding number_after
number_after-none seed = refl

-- one more draw
pub number_after-more : (seed draws : ℕ) → number_after seed (draws + 1) ≡ next_number (number_after seed draws)
unfolding number_after
number_after-more seed draws = rw (add-one draws)

module _ (seed draws before after : ℕ) (before_is : before ≡ number_after seed draws) (after_is : after ≡ next_number before) where
  -- the number after a draw
  pub number_next : after ≡ number_after seed (draws + 1)
  number_next = after_is ∙ ap (λ (n : ℕ). next_number n) before_is ∙ sym (number_after-more seed draws)

  -- what the draw gives
  pub drawn_next : (gives : ℕ) → gives ≡ after / 2 ^ 33 → gives ≡ drawn seed draws
  drawn_next gives gives_is = gives_is ∙ ap (λ (n : ℕ). n / 2 ^ 33) number_next
