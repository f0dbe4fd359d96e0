-- Rows of blocks by the words that may be their magics. The word of block `b` is number `first + step * b`.
use Rattle.std.specs.Prelude.{ℕ, ◌≡◌, ◌+◌, ◌-◌, ◌*◌, ◌<◌, ◌≤◌, ◌==◌, List, Bool, true, false, Option, Some, None}
use Rattle.geometry.specs.declared.geometry.Geometry.{Geometry}
use Rattle.geometry.specs.Numbers.{right_magic}
use Rattle.geometry.specs.declared.magic.MagicKind.TheVariants.{Plain}
use Rattle.nor_core.specs.Flash.{word_at}
use Rattle.volume_detect.specs.Marks.{HasNoWideGap, IsMarkedRow}

-- a word of them
abbrev pub word_of : List ℕ → ℕ → ℕ
word_of words i = word_at words (2 * i)

-- a block of a volume has its magic
abbrev pub is_marked : List ℕ → (first step : ℕ) → Geometry → ℕ → Bool
is_marked words first step g b = word_of words (first + step * b) == right_magic g b

-- a block has this magic
abbrev pub is_equal : List ℕ → (first step magic : ℕ) → ℕ → Bool
is_equal words first step magic b = word_of words (first + step * b) == magic

-- of the blocks below `n` at most one fails a test
abbrev pub AtMostOne : (ℕ → Bool) → ℕ → Type 0
AtMostOne good n = (b c : ℕ) → b < n → c < n → good b ≡ false → good c ≡ false → b ≡ c

-- two of them fail it
abbrev pub TwoFail : (ℕ → Bool) → ℕ → Type 0
TwoFail good n = (b c : ℕ) × (b < c) × (c < n) × (good b ≡ false) × (good c ≡ false)

-- the longest row of at most so many blocks that ends with one that passes, where the magic doesn't tell its length
pub record LongestRow (good : ℕ → Bool) (most n : ℕ) : Type 0 where
  pub few : n ≤ most
  pub last : 0 < n → good (n - 1) ≡ true
  pub row : IsMarkedRow good Plain n
  pub longest : (k : ℕ) → n < k → k ≤ most → good (k - 1) ≡ true → IsMarkedRow good Plain k → ⊥

-- the longest that ends so and of which at most one fails
pub record LongestOfOne (good : ℕ → Bool) (most n : ℕ) : Type 0 where
  pub few : n ≤ most
  pub last : 0 < n → good (n - 1) ≡ true
  pub gap : AtMostOne good n
  pub longest : (k : ℕ) → n < k → k ≤ most → good (k - 1) ≡ true → AtMostOne good k → ⊥

-- the longest that ends so and has no wide gap
pub record LongestOfGaps (good : ℕ → Bool) (most n : ℕ) : Type 0 where
  pub few : n ≤ most
  pub last : 0 < n → good (n - 1) ≡ true
  pub gaps : HasNoWideGap good 2 n
  pub longest : (k : ℕ) → n < k → k ≤ most → good (k - 1) ≡ true → HasNoWideGap good 2 k → ⊥

-- How many blocks up to one fail one behind the other, after one more.
abbrev pub gap_with : (gap : ℕ) (has : Bool) → ℕ
gap_with gap true = 0
gap_with gap false = gap + 1

-- whether a block that fails is known, after one more; none where two are
abbrev pub gap_step : (lacks has : Bool) → Option Bool
gap_step lacks true = Some lacks
gap_step false false = Some true
gap_step true false = None

-- what is known of the blocks below `n`: none fails, or exactly one does
abbrev pub GapSeen : (good : ℕ → Bool) (n : ℕ) (lacks : Bool) → Type 0
GapSeen good n false = (q : ℕ) → q < n → good q ≡ true
GapSeen good n true = (p : ℕ) × (p < n) × (good p ≡ false) × ((q : ℕ) → q < n → good q ≡ false → q ≡ p)
