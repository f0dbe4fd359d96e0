-- Rows of blocks of which some lack their magic.
use Rattle.std.specs.Prelude.{ℕ, ◌≡◌, ◌+◌, ◌-◌, ◌<◌, ◌≤◌, Bool, true, false, not, max, length, filter}
use Rattle.std.specs.List.{range_with_len}
use Rattle.geometry.specs.declared.magic.MagicKind.{MagicKind}
use Rattle.geometry.specs.declared.magic.MagicKind.TheVariants.{Plain, Length}

-- how many of the blocks below `n` fail a test
abbrev pub failing : (ℕ → Bool) → ℕ → ℕ
failing good n = length (filter (λ b. not (good b)) (range_with_len 0 n))

-- of these no more than `gap` one behind the other do
abbrev pub HasNoWideGap : (ℕ → Bool) → (gap n : ℕ) → Type 0
HasNoWideGap good gap n = (b : ℕ) → b + gap < n → ((c : ℕ) → b ≤ c → c ≤ b + gap → good c ≡ false) → ⊥

-- How many blocks one behind the other may lack their magic: two, and eight where the magics tell how many blocks there are. (Where they don't,
-- what lies behind a wider gap may be another volume.)
abbrev pub widest_gap : MagicKind → ℕ
widest_gap Plain = 2
widest_gap Length = 8

-- How many of so many blocks may lack their magic: where the first does, no other one; where the magics tell how many blocks there are, all but
-- three; else as many as the gaps leave.
abbrev pub most_failing : MagicKind → (first : Bool) → ℕ → ℕ
most_failing kind false n = 1
most_failing Plain true n = n
most_failing Length true n = max 1 (n - 3)

-- So many blocks are a row by those that have their magic: no gap is too wide, and no more lack it than may.
pub record IsMarkedRow (good : ℕ → Bool) (kind : MagicKind) (n : ℕ) : Type 0 where
  pub gaps : HasNoWideGap good (widest_gap kind) n
  pub few : failing good n ≤ most_failing kind (good 0) n
