-- What a program of a page, or a block that is made fresh, does to the counts of blocks.
use Rattle.std.specs.Prelude.{◌≡◌, ℕ, ◌+◌, List, cond, ◌==◌}
use Rattle.geometry.specs.declared.geometry.Geometry.{Geometry}
use Rattle.geometry.specs.Numbers.{entries}
use Rattle.image_model.specs.Places.{entry_of, block_of}
use Rattle.image_model.specs.Collect.{count_in, index_in, data_in, deleted_in}
use Rattle.room_laws.specs.Sorts.{Index, Data, Deleted, Free, sort_at, same_sort, counts_by}

-- the entries of a block that are 0xFFFF
abbrev pub ones_in : Geometry → List ℕ → ℕ → ℕ
ones_in g image block = count_in g block (λ p. entry_of g image p == 0xFFFF)

-- A block's counts are those of what its entries count as.
pub record CountsAreSorts (g : Geometry) (image : List ℕ) (block : ℕ) : Type 0 where
  pub index : index_in g image block ≡ (counts_by g (sort_at g image) block).index
  pub pages : data_in g image block ≡ (counts_by g (sort_at g image) block).pages
  pub deleted : deleted_in g image block ≡ (counts_by g (sort_at g image) block).deleted
  pub free : ones_in g image block ≡ (counts_by g (sort_at g image) block).free

-- The block of a page counts the page as what it now is in the place of what it was.
pub record RecountedHere (g : Geometry) (was now : List ℕ) (p : ℕ) : Type 0 where
  pub index : index_in g now (block_of g p) + cond (same_sort (sort_at g was p) Index) 1 0
      ≡ index_in g was (block_of g p) + cond (same_sort (sort_at g now p) Index) 1 0
  pub pages : data_in g now (block_of g p) + cond (same_sort (sort_at g was p) Data) 1 0
      ≡ data_in g was (block_of g p) + cond (same_sort (sort_at g now p) Data) 1 0
  pub deleted : deleted_in g now (block_of g p) + cond (same_sort (sort_at g was p) Deleted) 1 0
      ≡ deleted_in g was (block_of g p) + cond (same_sort (sort_at g now p) Deleted) 1 0
  pub free : ones_in g now (block_of g p) + cond (same_sort (sort_at g was p) Free) 1 0
      ≡ ones_in g was (block_of g p) + cond (same_sort (sort_at g now p) Free) 1 0

-- A block has the counts that it had.
pub record RecountedBeside (g : Geometry) (was now : List ℕ) (block : ℕ) : Type 0 where
  pub index : index_in g now block ≡ index_in g was block
  pub pages : data_in g now block ≡ data_in g was block
  pub deleted : deleted_in g now block ≡ deleted_in g was block
  pub free : ones_in g now block ≡ ones_in g was block

-- A block has no page and no deleted entry, and all its entries are 0xFFFF.
pub record FreshHere (g : Geometry) (now : List ℕ) (block : ℕ) : Type 0 where
  pub index : index_in g now block ≡ 0
  pub pages : data_in g now block ≡ 0
  pub deleted : deleted_in g now block ≡ 0
  pub free : ones_in g now block ≡ entries g
