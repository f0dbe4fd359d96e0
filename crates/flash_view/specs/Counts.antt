-- The entries of a block by what they count as.
use Rattle.std.specs.Prelude.{◌≡◌, ℕ, ◌+◌, ◌-◌, ◌*◌, ◌%◌, ◌<◌, ◌≤◌, List, Bool, true, false, not, nat_lt, ◌==◌, ◌&&◌, Option, Some, None, if◌then◌else◌}
use Rattle.geometry.specs.declared.geometry.Geometry.{Geometry}
use Rattle.image_model.specs.Headers.{names_index}
use Rattle.image_model.specs.Live.{live_at}
use Rattle.image_model.specs.Places.{entry_of, erase_count, is_entry_page, block_of}
use Rattle.image_model.specs.Collect.{count_in, index_in, data_in, deleted_in}
use Rattle.flash_view.specs.declared.counts.BlockCounts.{BlockCounts}
use Rattle.flash_view.specs.declared.counts.Sort.{Sort}
use Rattle.flash_view.specs.declared.kinds.Kind.{Kind}
use Rattle.flash_view.specs.declared.kinds.Kind.TheVariants.{Index as IndexKind, Data as DataKind}
use Rattle.flash_view.specs.declared.sums.Sums.{Sums}
use Rattle.flash_view.specs.declared.counts.Sort.TheVariants.{Index, Data, Deleted, Free}

-- what an entry that isn't free counts as, by its page where that is live
abbrev pub sort_of_page : Option (List ℕ) → Sort
sort_of_page None = Deleted
sort_of_page (Some page) = if names_index page then Index else Data

-- what an entry counts as
unfoldable pub sort_at : Geometry → List ℕ → ℕ → Sort
sort_at g image p = if entry_of g image p == 0xFFFF then Free else sort_of_page (live_at g image p)

-- the entries that were counted
abbrev pub total_of : BlockCounts → ℕ
total_of c = c.index_live + c.data_live + c.deleted + c.free

-- the counts with one entry more
abbrev pub one_more : BlockCounts → Sort → BlockCounts
one_more c Index = record c { index_live = c.index_live + 1 }
one_more c Data = record c { data_live = c.data_live + 1 }
one_more c Deleted = record c { deleted = c.deleted + 1 }
one_more c Free = record c { free = c.free + 1 }

-- the counts with one entry less
abbrev pub one_less : BlockCounts → Sort → BlockCounts
one_less c Index = record c { index_live = c.index_live - 1 }
one_less c Data = record c { data_live = c.data_live - 1 }
one_less c Deleted = record c { deleted = c.deleted - 1 }
one_less c Free = record c { free = c.free - 1 }

-- the counts with free entries more
abbrev pub more_free : BlockCounts → ℕ → BlockCounts
more_free c n = record c { free = c.free + n }

-- The counts are those of the block's entries, each a number of two bytes; `free` counts each entry of 0xFFFF, also over a page that isn't
-- erased.
pub record AreCounts (g : Geometry) (image : List ℕ) (block : ℕ) (c : BlockCounts) : Type 0 where
  pub index : c.index_live ≡ index_in g image block
  pub pages : c.data_live ≡ data_in g image block
  pub deleted : c.deleted ≡ deleted_in g image block
  pub free : c.free ≡ count_in g block (λ p. entry_of g image p == 0xFFFF)
  pub erases : c.erases ≡ erase_count g image block
  pub words : (p : ℕ) → is_entry_page g p ≡ true → block_of g p ≡ block → entry_of g image p < 0x10000

-- By these counts the free entries of a block in use are for a kind, and there are such: for index pages where it holds no live data page
-- and isn't free, for data pages where it holds live data pages alone.
abbrev pub takes : BlockCounts → Kind → (entries : ℕ) → Bool
takes c IndexKind entries = (c.data_live == 0) && nat_lt 0 c.free && nat_lt c.free entries
takes c DataKind entries = nat_lt 0 c.data_live && (c.index_live == 0) && nat_lt 0 c.free

-- what a block adds to the sums, by its counts
abbrev pub part_of : BlockCounts → (entries : ℕ) → Sums
part_of c entries = record {
  index_live = c.index_live;
  data_live = c.data_live;
  free = c.free;
  blocks = if c.free == entries then 1 else 0;
  for_index = if (c.data_live == 0) && not (c.free == entries) then c.free else 0;
  for_data = if nat_lt 0 c.data_live && (c.index_live == 0) then c.free else 0;
  beside = if nat_lt 0 c.index_live && (c.data_live == 0) then c.free else 0;
}

-- the sums once a block adds `more` in the place of `less`, in words of 16 bits (there 65,535 times a number is its negative)
abbrev pub moved_by : (sums less more : Sums) → Sums
moved_by s a b = record {
  index_live = (s.index_live + 65535 * a.index_live + b.index_live) % 65536;
  data_live = (s.data_live + 65535 * a.data_live + b.data_live) % 65536;
  free = (s.free + 65535 * a.free + b.free) % 65536;
  blocks = (s.blocks + 65535 * a.blocks + b.blocks) % 65536;
  for_index = (s.for_index + 65535 * a.for_index + b.for_index) % 65536;
  for_data = (s.for_data + 65535 * a.for_data + b.for_data) % 65536;
  beside = (s.beside + 65535 * a.beside + b.beside) % 65536;
}

-- the sums in words of 16 bits
abbrev pub in_words : Sums → Sums
in_words s = record {
  index_live = s.index_live % 65536;
  data_live = s.data_live % 65536;
  free = s.free % 65536;
  blocks = s.blocks % 65536;
  for_index = s.for_index % 65536;
  for_data = s.for_data % 65536;
  beside = s.beside % 65536;
}

-- The first number that passes a test, of those below `end`, or `end` where none does.
pub record IsFirst (end : ℕ) (test : ℕ → Bool) (first : ℕ) : Type 0 where
  pub most : first ≤ end
  pub below : (k : ℕ) → k < first → test k ≡ false
  pub here : first < end → test first ≡ true
