-- The words of a file that may be magics.
use Rattle.std.specs.Prelude.{ℕ, ◌≡◌, ◌+◌, ◌-◌, ◌*◌, ◌/◌, ◌%◌, ◌^◌, ◌<◌, List, length}
use Rattle.nor_core.specs.Flash.{word_at}

-- The lookup pages of a block take 128, 256, 512, 1024, 2048 or 4096 bytes at its front, and the magic is the last word of these but one.
-- So each unit of 4,096 bytes has six words that may be one: where word `i` of them all stands.
abbrev pub word_place : ℕ → ℕ
word_place i = 4096 * (i / 6) + 128 * 2 ^ (i % 6) - 4

-- these bytes are all such words of the file, in order
pub record HasWords (file words : List ℕ) : Type 0 where
  pub size : length words ≡ 12 * (length file / 4096)
  pub word : (i : ℕ) → i < 6 * (length file / 4096) → word_at words (2 * i) ≡ word_at file (word_place i)

-- the first so many words were read
abbrev pub ReadTo : List ℕ → ℕ → List ℕ → Type 0
ReadTo file count words = (i : ℕ) → i < count → word_at words (2 * i) ≡ word_at file (word_place i)
