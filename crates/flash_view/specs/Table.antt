-- The table of block counts: a row for each block, and beside the rows what they add up to.
use Rattle.std.specs.Prelude.{◌≡◌, ℕ, ◌+◌, ◌*◌, ◌<◌, ◌≤◌, ◌==◌, ◌&&◌, ◌||◌, nat_lt, nat_le, Bool, List, length, drop, sum_by}
use Rattle.std.specs.List.{range_with_len}
use Rattle.geometry.specs.declared.geometry.Geometry.{Geometry}
use Rattle.geometry.specs.Numbers.{scratch_need, rows_need, entries}
use Rattle.nor_core.specs.Flash.{word_at}
use Rattle.nor_core.specs.declared.state.NorState.{Ghosts as NorOf}
use Rattle.image_model.specs.Tidy.{TellsFree}
use Rattle.flash_view.specs.declared.counts.BlockCounts.{BlockCounts}
use Rattle.flash_view.specs.declared.sums.Sums.{Sums}
use Rattle.flash_view.specs.declared.kinds.Kind.{Kind}
use Rattle.flash_view.specs.declared.kinds.Kind.TheVariants.{Index, Data}
use Rattle.flash_view.specs.Counts.{AreCounts, part_of, in_words, takes, IsFirst}

-- the row of a block: five words in the first 10 of its 16 bytes
abbrev pub row_of : List ℕ → ℕ → BlockCounts
row_of rows block = record {
  index_live = word_at rows (16 * block);
  data_live = word_at rows (16 * block + 2);
  deleted = word_at rows (16 * block + 4);
  free = word_at rows (16 * block + 6);
  erases = word_at rows (16 * block + 8);
}

-- what a number of each row adds up to
abbrev pub sum_rows : List ℕ → ℕ → (BlockCounts → ℕ) → ℕ
sum_rows rows blocks f = sum_by (λ b. f (row_of rows b)) (range_with_len 0 blocks)

-- the sums of the rows of all blocks
abbrev pub totals_of : Geometry → List ℕ → Sums
totals_of g rows = record {
  index_live = sum_rows rows g.blocks (λ c. (part_of c (entries g)).index_live);
  data_live = sum_rows rows g.blocks (λ c. (part_of c (entries g)).data_live);
  free = sum_rows rows g.blocks (λ c. (part_of c (entries g)).free);
  blocks = sum_rows rows g.blocks (λ c. (part_of c (entries g)).blocks);
  for_index = sum_rows rows g.blocks (λ c. (part_of c (entries g)).for_index);
  for_data = sum_rows rows g.blocks (λ c. (part_of c (entries g)).for_data);
  beside = sum_rows rows g.blocks (λ c. (part_of c (entries g)).beside);
}

-- the sums as they are kept: in the words that the first three rows leave over
abbrev pub sums_in : List ℕ → Sums
sums_in rows = record {
  index_live = word_at rows 10;
  data_live = word_at rows 12;
  free = word_at rows 14;
  blocks = word_at rows 26;
  for_index = word_at rows 28;
  for_data = word_at rows 30;
  beside = word_at rows 42;
}

-- the first block that takes a page of a kind as it is kept, behind the sums
abbrev pub first_in : List ℕ → Kind → ℕ
first_in rows Index = word_at rows 44
first_in rows Data = word_at rows 46

-- by its row a block in use takes a page of a kind
abbrev pub row_takes : Geometry → List ℕ → Kind → ℕ → Bool
row_takes g rows kind block = takes (row_of rows block) kind (entries g)

-- What is kept beside the rows is theirs: their sums, in words of 16 bits, and the first block that takes a page of each kind.
pub record IsSummed (g : Geometry) (rows : List ℕ) : Type 0 where
  pub sums : sums_in rows ≡ in_words (totals_of g rows)
  pub index : IsFirst g.blocks (row_takes g rows Index) (first_in rows Index)
  pub pages : IsFirst g.blocks (row_takes g rows Data) (first_in rows Data)

-- The lookup pages tell which entries are free, each row has the counts of its block, and what is kept beside the rows is theirs.
pub record IsTable (g : Geometry) (image rows : List ℕ) : Type 0 where
  pub clear : TellsFree g image
  pub counts : (block : ℕ) → block < g.blocks → AreCounts g image block (row_of rows block)
  pub summed : IsSummed g rows

-- whether a row tells that its block has no live page with an entry between two numbers: it has no index page, or the numbers are those of
-- data pages, and it has no data page, or they are those of index pages
abbrev pub has_none : BlockCounts → (low high : ℕ) → Bool
has_none c low high = ((c.index_live == 0) || nat_lt high 0x8000) && ((c.data_live == 0) || nat_le 0x8000 low)

-- The table stands: there is room for its rows, and they are those of the device's bytes.
pub record HasTable {N : Type 0} (nor : NorOf N) (g : Geometry) (device : N) (rows : List ℕ) : Type 0 where
  pub room : rows_need g ≤ length rows
  pub told : nor.tells device → IsTable g (nor.bytes device) rows

-- the rows of a mounted volume, which stand in its bytes for work behind all others
abbrev pub rows_in : Geometry → List ℕ → List ℕ
rows_in g work = drop (scratch_need g) work
