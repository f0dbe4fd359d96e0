-- Free pages of an image: which page takes the next one of a kind, and when there is none.
use Rattle.std.specs.Prelude.{◌≡◌, ◌≢◌, ◌⊎◌, ℕ, ◌+◌, ◌*◌, ◌<◌, ◌≤◌, ◌==◌, ◌&&◌, nat_lt, nat_le, not, List, Bool, true, false, Option, Some, None, is_some}
use Rattle.std.specs.Prelude.{option_and_then, filter, find, if◌then◌else◌}
use Rattle.std.specs.Option.{option_or}
use Rattle.std.specs.List.{range_with_len, list_all}
use Rattle.geometry.specs.declared.geometry.Geometry.{Geometry}
use Rattle.flash_view.specs.declared.kinds.Kind.{Kind}
use Rattle.flash_view.specs.declared.kinds.Kind.TheVariants.{Index, Data}
use Rattle.flash_view.specs.Table.{row_of}
use Rattle.free_search.specs.declared.pages.Worn.{Worn}
use Rattle.geometry.specs.Numbers.{per_block, lookups, entries}
use Rattle.image_model.specs.Places.{has_magic, erase_count, block_of, is_entry_page, entry_at}
use Rattle.flash_view.specs.Places.{IsWordAt}
use Rattle.image_model.specs.Tidy.{is_free_entry, is_free_block, free_blocks}
use Rattle.image_model.specs.Kinds.{is_index_block, is_data_block}
use Rattle.image_model.specs.Collect.{free_in, takes_index, takes_data, are_had}

-- a block that holds a live page of the other kind
abbrev pub holds_other : Geometry → List ℕ → Kind → ℕ → Bool
holds_other g image Index block = is_data_block g image block
holds_other g image Data block = is_index_block g image block

-- a block in use whose free entries are for a kind
abbrev pub takes_kind : Geometry → List ℕ → Kind → ℕ → Bool
takes_kind g image Index block = takes_index g image block
takes_kind g image Data block = takes_data g image block

-- A free page for the next one of a kind: its block isn't the one that is never chosen, has its magic and holds no live
-- page of the other kind. If that block is in use its free entries are for the kind; if it is free, more than `keep` blocks
-- are, and no block in use has a free entry for the kind.
pub record IsFreeFor (g : Geometry) (image : List ℕ) (kind : Kind) (keep : ℕ) (not_in : Option ℕ) (p : ℕ) : Type 0 where
  pub page : is_entry_page g p ≡ true
  pub magic : has_magic g image (block_of g p) ≡ true
  pub free : is_free_entry g image p ≡ true
  pub word : IsWordAt image (entry_at g p)
  pub kind_is : holds_other g image kind (block_of g p) ≡ false
  pub keeps : (is_free_block g image (block_of g p) ≡ false) ⊎ (keep < free_blocks g image)
  pub apart : Some (block_of g p) ≢ not_in
  pub opened : is_free_block g image (block_of g p) ≡ false → takes_kind g image kind (block_of g p) ≡ true
  pub last : is_free_block g image (block_of g p) ≡ true →
      (block : ℕ) → block < g.blocks → Some block ≢ not_in → takes_kind g image kind block ≡ true → free_in g image block ≡ 0

-- There is none: no block in use has a free entry for the kind, and at most `keep` blocks are free, or none but the one
-- that is never chosen.
pub record HasNone (g : Geometry) (image : List ℕ) (kind : Kind) (keep : ℕ) (not_in : Option ℕ) : Type 0 where
  pub full : (block : ℕ) → block < g.blocks → Some block ≢ not_in → takes_kind g image kind block ≡ true → free_in g image block ≡ 0
  pub kept : (free_blocks g image ≤ keep) ⊎ ((block : ℕ) → block < g.blocks → Some block ≢ not_in → is_free_block g image block ≡ false)

-- the page for the next one of a kind, or none
abbrev pub FreePage : Geometry → List ℕ → Kind → ℕ → Option ℕ → Option ℕ → Type 0
FreePage g image kind keep not_in None = HasNone g image kind keep not_in
FreePage g image kind keep not_in (Some p) = IsFreeFor g image kind keep not_in p

-- a block other than the one that is never chosen
abbrev pub may_choose : Option ℕ → ℕ → Bool
may_choose None block = true
may_choose (Some other) block = not (other == block)

-- a block in use with a free entry for a kind
abbrev pub is_open_for : Geometry → List ℕ → Kind → ℕ → Bool
is_open_for g image kind block = takes_kind g image kind block && nat_lt 0 (free_in g image block)

-- the lowest-numbered such block
unfoldable pub the_open_block : Geometry → List ℕ → Kind → Option ℕ → Option ℕ
the_open_block g image kind not_in = find (λ block. may_choose not_in block && is_open_for g image kind block) (range_with_len 0 g.blocks)

-- the free blocks that may be chosen
abbrev pub choices : Geometry → List ℕ → Option ℕ → List ℕ
choices g image not_in = filter (λ block. may_choose not_in block && is_free_block g image block) (range_with_len 0 g.blocks)

-- the one of them with the smallest erase count, the lowest-numbered among equals
unfoldable pub the_least_worn : Geometry → List ℕ → Option ℕ → Option ℕ
the_least_worn g image not_in =
    find (λ block. list_all (λ other. nat_le (erase_count g image block) (erase_count g image other)) (choices g image not_in)) (choices g image not_in)

-- The next page of a kind goes into the lowest-numbered open block of the kind; where there is none, into the least worn
-- free block, if more than `keep` blocks are free.
unfoldable pub the_block : Geometry → List ℕ → Kind → ℕ → Option ℕ → Option ℕ
the_block g image kind keep not_in =
    option_or (the_open_block g image kind not_in) (if nat_lt keep (free_blocks g image) then the_least_worn g image not_in else None)

-- the first free entry of a block
unfoldable pub the_first_free : Geometry → List ℕ → ℕ → Option ℕ
the_first_free g image block = find (λ p. is_free_entry g image p) (range_with_len (block * per_block g + lookups g) (entries g))

-- the page that the next one of a kind takes
unfoldable pub the_free_page : Geometry → List ℕ → Kind → ℕ → Option ℕ → Option ℕ
the_free_page g image kind keep not_in = option_and_then (the_first_free g image) (the_block g image kind keep not_in)

-- of two blocks the less worn one, the earlier among equals
abbrev pub less_worn_of : Option Worn → Worn → Option Worn
less_worn_of None other = Some other
less_worn_of (Some worn) other = if nat_le worn.erases other.erases then Some worn else Some other

-- the less worn of the block so far and this one, where that is free
abbrev pub worn_with : Geometry → List ℕ → Option Worn → ℕ → Option Worn
worn_with g image least block = if is_free_block g image block then less_worn_of least (record { block = block; erases = erase_count g image block }) else least

-- the same by its row, which tells that it is free where so many of its entries are
abbrev pub worn_by_row : (rows : List ℕ) → (entries : ℕ) → Option Worn → ℕ → Option Worn
worn_by_row rows entries least block =
    if (row_of rows block).free == entries then less_worn_of least (record { block = block; erases = (row_of rows block).erases }) else least

-- A page is found for an index page that leaves two blocks free exactly where one index page is had.
abbrev pub IndexPageHad : Geometry → Type 0
IndexPageHad g = (image : List ℕ) (found : Option ℕ) → FreePage g image Index 2 None found → is_some found ≡ are_had g image 1 0

-- A page is found for a data page that leaves two blocks free exactly where one data page is had.
abbrev pub DataPageHad : Geometry → Type 0
DataPageHad g = (image : List ℕ) (found : Option ℕ) → FreePage g image Data 2 None found → is_some found ≡ are_had g image 0 1
