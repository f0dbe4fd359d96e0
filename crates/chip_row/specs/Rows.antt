-- Chips of one size end to end: what a row is, and what a call on one of its chips leaves.
use Rattle.std.specs.Prelude.{ℕ, ◌≡◌, ◌≢◌, ◌+◌, ◌*◌, ◌%◌, ◌^◌, ◌<◌, ◌≤◌, max, List, [], ◌∷◌, ◌++◌, length, slice_get, slice_range, Some, OnOk, OnErr, Result}
use Rattle.std.specs.Prelude.{All}
use Rattle.nor_core.specs.declared.device.Failed.{Failed}
use Rattle.nor_core.specs.Count.{Rose}
use Rattle.chip_row.specs.declared.numbers.Numbers.{Numbers}
use Rattle.chip_row.specs.Chips.{ChipOf, ChipReads, ChipChanges, ChipHonest}

-- the numbers that a row may have
pub record NumbersFit (count chip_size unit : ℕ) : Type 0 where
  pub some : 0 < count
  pub some_bytes : 0 < chip_size
  pub some_unit : 0 < unit
  pub whole : chip_size % unit ≡ 0
  pub fits : count * chip_size < 2 ^ 32

-- the greatest of the moments at which the chips were last called, 0 for none
unfoldable pub latest : {D : Type 0} → ChipOf D → List D → ℕ
latest chip [] = 0
latest chip (c ∷ chips) = max (chip.last c) (latest chip chips)

-- each chip has the row's size and unit
pub record AllSized {D : Type 0} (chip : ChipOf D) (chip_size unit : ℕ) (chips : List D) : Type 0 where
  pub sizes : All (λ c. chip.size c ≡ chip_size) chips
  pub units : All (λ c. chip.unit c ≡ unit) chips

-- there are as many chips as the row's numbers say, each of its size and unit, none called past its moment, and each keeps what a chip keeps
pub record AllFit {D : Type 0} (chip : ChipOf D) (row : Numbers) (now : ℕ) (chips : List D) : Type 0 where
  pub many : length chips ≡ row.count
  pub sized : AllSized chip row.chip_size row.unit chips
  pub past : All (λ c. chip.last c ≤ now) chips
  pub honest : All (λ c. ChipHonest chip c) chips

-- each chip tells its bytes, and they fit the row
pub record RowTells {D : Type 0} (chip : ChipOf D) (row : Numbers) (now : ℕ) (chips : List D) : Type 0 where
  pub each : All (λ c. chip.tells c) chips
  pub good : AllFit chip row now chips

-- what a cut at the moment `t` may leave of all of them, end to end
unfoldable pub LeftAt : {D : Type 0} → ChipOf D → ℕ → List D → List ℕ → Type 0
LeftAt chip t [] image = image ≡ []
LeftAt chip t (c ∷ chips) image = (part : List ℕ) × (rest : List ℕ) × (image ≡ part ++ rest) × chip.left_at c t part × LeftAt chip t chips rest

-- what a cut since the row's moment `t` may leave, where that moment is `now`: what the chips may leave at one moment of theirs
abbrev pub RowLeft : {D : Type 0} → ChipOf D → ℕ → List D → ℕ → List ℕ → ℕ → Type 0
RowLeft chip now chips t image count = (m : ℕ) × (t < m) × (m ≤ now + 1) × LeftAt chip m chips image × (count ≡ 0)

-- one chip stands where another stood, and all others stay
pub record OneOther {D : Type 0} (place : ℕ) (old new : List D) (was is : D) : Type 0 where
  pub before : List D
  pub after : List D
  pub old_is : old ≡ before ++ was ∷ after
  pub new_is : new ≡ before ++ is ∷ after
  pub at_place : length before ≡ place

-- all chips but the one at `place` stay
abbrev pub OthersAt : {D : Type 0} → ℕ → List D → List D → Type 0
OthersAt place old new = (k : ℕ) → k ≢ place → slice_get new k ≡ slice_get old k

-- one of them was called at `now`: R holds of what a cut in the call may leave of it, and S of what stands
pub record OneChanged {D : Type 0} (chip : ChipOf D) (now place : ℕ) (old new : List D) (R : List ℕ → List ℕ → List ℕ → Type 0) (S : List ℕ → List ℕ → Type 0)
    (result : Result (Unit {0}) Failed) : Type 0 where
  pub was : D
  pub is : D
  pub other : OneOther place old new was is
  pub changes : ChipChanges chip now was is (R (chip.bytes was) (chip.bytes is))
  pub done : chip.tells was → S (chip.bytes was) (chip.bytes is)
  pub cause : OnErr result (Rose (chip.faults was) (chip.faults is))
  pub honest : All (λ c. ChipHonest chip c) new
  pub others : OthersAt place old new

-- `count` bytes of one of them were read
pub record OneRead {D : Type 0} (chip : ChipOf D) (place at count : ℕ) (old new : List D) (into : List ℕ) (result : Result (Unit {0}) Failed) : Type 0 where
  pub was : D
  pub is : D
  pub other : OneOther place old new was is
  pub reads : ChipReads chip was is
  pub read : chip.tells was → OnOk result (into ≡ slice_range (chip.bytes was) at (at + count))
  pub cause : OnErr result (Rose (chip.faults was) (chip.faults is))
  pub honest : All (λ c. ChipHonest chip c) new
  pub others : OthersAt place old new

-- the count of faults of the chip at `place` rose
pub record ChipRose {D : Type 0} (chip : ChipOf D) (place : ℕ) (old new : List D) : Type 0 where
  pub was : D
  pub is : D
  pub old_is : slice_get old place ≡ Some was
  pub new_is : slice_get new place ≡ Some is
  pub rose : Rose (chip.faults was) (chip.faults is)
