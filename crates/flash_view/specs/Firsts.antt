-- The first number that passes a test, as it is known on the way to it.
use Rattle.std.specs.Prelude.{◌≡◌, ◌≢◌, ℕ, ◌<◌, ◌≤◌, Bool, true, false}

-- `first` is the first number below `end` that passes, or `end`, if nothing is asked of one number: whether `other` passes may have changed since.
pub record IsFirstBut (end : ℕ) (test : ℕ → Bool) (other first : ℕ) : Type 0 where
  pub most : first ≤ end
  pub below : (k : ℕ) → k < first → k ≢ other → test k ≡ false
  pub here : first < end → first ≢ other → test first ≡ true

-- `first` is the first number from `from` on and below `end` that passes, or `end` where none does.
pub record IsFirstFrom (end : ℕ) (test : ℕ → Bool) (from first : ℕ) : Type 0 where
  pub least : from ≤ first
  pub most : first ≤ end
  pub below : (k : ℕ) → from ≤ k → k < first → test k ≡ false
  pub here : first < end → test first ≡ true
