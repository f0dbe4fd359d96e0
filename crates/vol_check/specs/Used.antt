-- Wanted pages of each kind and free entries, of an entry, of a block, and of all blocks.
use Rattle.std.specs.Prelude.{◌≡◌, ℕ, ◌+◌, ◌≤◌, List, Bool, not, ◌==◌, ◌&&◌, if◌then◌else◌}
use Rattle.geometry.specs.declared.geometry.Geometry.{Geometry}
use Rattle.image_model.specs.Places.{has_magic}
use Rattle.image_model.specs.Tidy.{is_free_entry, is_free_block, free_blocks}
use Rattle.image_model.specs.Kinds.{spoiled_blocks}
use Rattle.image_model.specs.Collect.{free_in}
use Rattle.image_model.specs.Shared.{is_wanted_index, is_wanted_data, wanted_index_in, wanted_data_in, is_shared, shared_blocks, shared_index, open_entries}
use Rattle.flash_view.specs.declared.counts.Sort.{Sort}
use Rattle.flash_view.specs.declared.counts.Sort.TheVariants.{Index, Data, Deleted, Free}
use Rattle.vol_check.specs.declared.uses.Uses.{Uses}
use Rattle.vol_check.specs.declared.tallies.Tally.{Tally}

-- ---- the uses of entries

-- none
abbrev pub no_use : Uses
no_use = record { index = 0; pages = 0; free = 0 }

-- that of an entry of 0xFFFF, whose page is blank or not
abbrev pub blank_use : Bool → Uses
blank_use blank = record no_use { free = if blank then 1 else 0 }

-- that of an entry whose page is wanted if it is live
abbrev pub sort_use : Sort → Uses
sort_use Index = record no_use { index = 1 }
sort_use Data = record no_use { pages = 1 }
sort_use Deleted = no_use
sort_use Free = no_use

-- those of two together
abbrev pub both_uses : Uses → Uses → Uses
both_uses a b = record { index = a.index + b.index; pages = a.pages + b.pages; free = a.free + b.free }

-- no number of them is above `most`
pub record FewUses (most : ℕ) (u : Uses) : Type 0 where
  pub index : u.index ≤ most
  pub pages : u.pages ≤ most
  pub free : u.free ≤ most

-- They are that of the entry of page p: whether it is a wanted index page, a wanted data page, or its entry is free.
pub record IsUse (g : Geometry) (image : List ℕ) (p : ℕ) (u : Uses) : Type 0 where
  pub index : u.index ≡ (if is_wanted_index g image p then 1 else 0)
  pub pages : u.pages ≡ (if is_wanted_data g image p then 1 else 0)
  pub free : u.free ≡ (if is_free_entry g image p then 1 else 0)

-- They are those of a block: its wanted index pages, its wanted data pages and its free entries.
pub record AreUses (g : Geometry) (image : List ℕ) (block : ℕ) (u : Uses) : Type 0 where
  pub index : u.index ≡ wanted_index_in g image block
  pub pages : u.pages ≡ wanted_data_in g image block
  pub free : u.free ≡ free_in g image block

-- ---- what blocks add up to

-- what a block with its magic adds, by the uses of its entries
abbrev pub tally_by : Uses → (entries : ℕ) → Tally
tally_by u entries = record {
  shared = if not (u.index == 0) && not (u.pages == 0) then 1 else 0;
  index_pages = if not (u.index == 0) && not (u.pages == 0) then u.index else 0;
  index_free = if not (u.free == entries) && (u.pages == 0) then u.free else 0;
  free = if u.free == entries then 1 else 0;
  spoiled = 0;
}

-- nothing
abbrev pub no_tally : Tally
no_tally = record { shared = 0; index_pages = 0; index_free = 0; free = 0; spoiled = 0 }

-- what a block without its magic adds
abbrev pub spoiled_tally : Tally
spoiled_tally = record no_tally { spoiled = 1 }

-- what two add together
abbrev pub both_tallies : Tally → Tally → Tally
both_tallies a b = record {
  shared = a.shared + b.shared;
  index_pages = a.index_pages + b.index_pages;
  index_free = a.index_free + b.index_free;
  free = a.free + b.free;
  spoiled = a.spoiled + b.spoiled;
}

-- no number of it is above `most`
pub record IsFew (most : ℕ) (t : Tally) : Type 0 where
  pub shared : t.shared ≤ most
  pub index_pages : t.index_pages ≤ most
  pub index_free : t.index_free ≤ most
  pub free : t.free ≤ most
  pub spoiled : t.spoiled ≤ most

-- the block is in use and holds no wanted data page
abbrev pub is_open : Geometry → List ℕ → ℕ → Bool
is_open g image block = has_magic g image block && not (is_free_block g image block) && (wanted_data_in g image block == 0)

-- It is what a block adds.
pub record IsTally (g : Geometry) (image : List ℕ) (block : ℕ) (t : Tally) : Type 0 where
  pub shared : t.shared ≡ (if is_shared g image block then 1 else 0)
  pub index_pages : t.index_pages ≡ (if is_shared g image block then wanted_index_in g image block else 0)
  pub index_free : t.index_free ≡ (if is_open g image block then free_in g image block else 0)
  pub free : t.free ≡ (if is_free_block g image block then 1 else 0)
  pub spoiled : t.spoiled ≡ (if not (has_magic g image block) then 1 else 0)

-- It is what all blocks add.
pub record IsTallied (g : Geometry) (image : List ℕ) (t : Tally) : Type 0 where
  pub shared : t.shared ≡ shared_blocks g image
  pub index_pages : t.index_pages ≡ shared_index g image
  pub index_free : t.index_free ≡ open_entries g image
  pub free : t.free ≡ free_blocks g image
  pub spoiled : t.spoiled ≡ spoiled_blocks g image
