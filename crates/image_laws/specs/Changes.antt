-- How live pages change.
use Rattle.std.specs.Prelude.{◌≡◌, ◌≢◌, ℕ, List, Some, None}
use Rattle.image_model.specs.Live.{Live}

-- one more live page
pub record Gains (p : ℕ) (page : List ℕ) (old new : Live) : Type 0 where
  pub before : old p ≡ None
  pub after : new p ≡ Some page
  pub others : (q : ℕ) → q ≢ p → new q ≡ old q

-- one live page less
pub record Loses (p : ℕ) (old new : Live) : Type 0 where
  pub after : new p ≡ None
  pub others : (q : ℕ) → q ≢ p → new q ≡ old q
