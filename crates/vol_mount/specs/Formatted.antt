-- What a format leaves.
use Rattle.std.specs.Prelude.{◌≡◌, ℕ, ◌+◌, ◌-◌, ◌*◌, ◌/◌, ◌%◌, ◌<◌, ◌≤◌, List, [], length, true, slice_index}
use Rattle.geometry.specs.declared.geometry.Geometry.{Geometry}
use Rattle.geometry.specs.Numbers.{right_magic, slots}
use Rattle.nor_core.specs.Flash.{SameOutside}
use Rattle.image_model.specs.Places.{erase_count}
use Rattle.image_model.specs.Tables.{table_of}
use Rattle.image_model.specs.Tidy.{IsTidy, is_free_block, free_blocks}

-- the byte k of a block
abbrev pub byte_in : Geometry → List ℕ → (block k : ℕ) → ℕ
byte_in g image block k = slice_index image (block * g.block + k)

-- A block is blank where the last four bytes of its lookup pages are its right magic and an erase count of 0, each the lower byte first,
-- and all its other bytes are 0xFF.
pub record IsBlank (g : Geometry) (block : ℕ) (image : List ℕ) : Type 0 where
  pub front : (k : ℕ) → k < 2 * (slots g - 2) → byte_in g image block k ≡ 255
  pub magic_low : byte_in g image block (2 * (slots g - 2)) ≡ right_magic g block % 256
  pub magic_high : byte_in g image block (2 * (slots g - 2) + 1) ≡ right_magic g block / 256
  pub count_low : byte_in g image block (2 * (slots g - 1)) ≡ 0
  pub count_high : byte_in g image block (2 * (slots g - 1) + 1) ≡ 0
  pub rest : (k : ℕ) → 2 * slots g ≤ k → k < g.block → byte_in g image block k ≡ 255

-- The block is blank, and all others are as they were.
pub record MakesBlank (g : Geometry) (block : ℕ) (was now : List ℕ) : Type 0 where
  pub outside : SameOutside (block * g.block) g.block was now
  pub blank : IsBlank g block now

-- So many blocks, from the first on, are blank, and all bytes behind them are as they were.
pub record BlankTo (g : Geometry) (count : ℕ) (was now : List ℕ) : Type 0 where
  pub size : length now ≡ length was
  pub blank : (block : ℕ) → block < count → IsBlank g block now
  pub behind : (k : ℕ) → count * g.block ≤ k → slice_index now k ≡ slice_index was k

-- An empty volume: every block is blank, and so free with an erase count of 0, the table is empty, the image is tidy and has its reserve,
-- and what the device has behind the volume is as it was.
pub record IsFormatted (g : Geometry) (was now : List ℕ) : Type 0 where
  pub size : length now ≡ length was
  pub blank : (block : ℕ) → block < g.blocks → IsBlank g block now
  pub beyond : (k : ℕ) → g.blocks * g.block ≤ k → slice_index now k ≡ slice_index was k
  pub free : (block : ℕ) → block < g.blocks → is_free_block g now block ≡ true
  pub counts : (block : ℕ) → block < g.blocks → erase_count g now block ≡ 0
  pub table : table_of g now ≡ []
  pub tidy : IsTidy g now
  pub reserve : 2 ≤ free_blocks g now
