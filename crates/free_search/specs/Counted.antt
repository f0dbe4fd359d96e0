-- A block's entries that were counted.
use Rattle.std.specs.Prelude.{◌≡◌, ℕ, ◌+◌, ◌-◌, ◌*◌, ◌<◌, ◌==◌, ◌&&◌, List, length, filter, slice_index, if◌then◌else◌}
use Rattle.std.specs.List.{range_with_len}
use Rattle.geometry.specs.declared.geometry.Geometry.{Geometry}
use Rattle.geometry.specs.Numbers.{per_block, lookups, entries}
use Rattle.nor_core.specs.Flash.{word_at}
use Rattle.page_layout.specs.declared.header.PageHeader.{PageHeader}
use Rattle.page_layout.specs.Layout.{is_finished, names_index}
use Rattle.image_model.specs.Places.{entry_of, erase_count, slot_of}
use Rattle.image_model.specs.Live.{live_at}
use Rattle.image_model.specs.Kinds.{is_index_page, is_data_page}
use Rattle.image_model.specs.Collect.{index_in, data_in, deleted_in, is_deleted_entry}
use Rattle.flash_view.specs.declared.counts.BlockCounts.{BlockCounts}
use Rattle.flash_view.specs.declared.counts.Sort.{Sort}
use Rattle.flash_view.specs.declared.counts.Sort.TheVariants.{Index, Data, Deleted}

-- what an entry counts as that is neither free nor deleted, by the header of its page, in a block with its magic
abbrev pub sort_by_header : ℕ → PageHeader → Sort
sort_by_header entry head = if (entry == head.id) && is_finished head then (if names_index head then Index else Data) else Deleted

-- so many slots are those of a block from its entry `start` on
pub record HasSlots (g : Geometry) (image bytes : List ℕ) (block start count : ℕ) : Type 0 where
  pub small : (k : ℕ) → slice_index bytes k < 256
  pub slots : (i : ℕ) → i < count → word_at bytes (2 * i) ≡ slot_of g image block (start + i)

-- those so far and those to come, of each sort
pub record Counting (g : Geometry) (image : List ℕ) (first n i block : ℕ) (c : BlockCounts) : Type 0 where
  pub index : c.index_live + length (filter (λ p. is_index_page (live_at g image p)) (range_with_len (first + i) (n - i))) ≡ index_in g image block
  pub pages : c.data_live + length (filter (λ p. is_data_page (live_at g image p)) (range_with_len (first + i) (n - i))) ≡ data_in g image block
  pub deleted : c.deleted + length (filter (λ p. is_deleted_entry g image p) (range_with_len (first + i) (n - i))) ≡ deleted_in g image block
  pub free : c.free + length (filter (λ p. entry_of g image p == 0xFFFF) (range_with_len (first + i) (n - i)))
      ≡ length (filter (λ p. entry_of g image p == 0xFFFF) (range_with_len first n))
  pub erases : c.erases ≡ erase_count g image block

-- entries that were counted are numbers of two bytes
abbrev pub AreWords : Geometry → List ℕ → (block n : ℕ) → Type 0
AreWords g image block n = (i : ℕ) → i < n → slot_of g image block i < 0x10000

-- the entries of a block before one were counted
pub record IsCountedTo (g : Geometry) (image : List ℕ) (block at : ℕ) (c : BlockCounts) : Type 0 where
  pub counts : Counting g image (block * per_block g + lookups g) (entries g) at block c
  pub words : AreWords g image block at
